-- What the text is made of, how long it is, and what it needs of its files.
pub mod Lines
pub mod Prefix
pub mod Whole
