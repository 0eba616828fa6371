-- What the text is made of, how long it is, and what the listing needs of its files.
pub mod Chunks
pub mod Lines
pub mod Prefix
pub mod Whole
