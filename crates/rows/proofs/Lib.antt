-- How long a row is.
pub mod Lengths
