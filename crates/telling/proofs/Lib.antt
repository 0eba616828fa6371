-- What the line is, how long it is, and what it needs of its files.
pub mod Prefix
pub mod Whole
