-- The theorems in whole closed runs: their premises are met.
pub mod Recoveries
pub mod Pairs
