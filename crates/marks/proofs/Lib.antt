-- What several functions' proofs share.
pub mod Lists
pub mod Rows
pub mod Searches
