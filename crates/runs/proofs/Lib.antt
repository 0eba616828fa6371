-- Closed runs, by computation. What holds of every step and in every run is proved in the crate `claims`.
pub mod Closed
