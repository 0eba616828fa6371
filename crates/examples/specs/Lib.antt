-- What the theorems come to in whole closed runs.
pub mod Pairs
