-- The closed runs that wrong definitions are refused by. All of them are in the crate `runs`; what holds of every step and in every run
-- is proved in the crate `claims`.
pub mod Guards
