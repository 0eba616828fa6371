-- Laws that several proofs share, and what holds of a group that was loaded.
pub mod Lists
pub mod Passed
pub mod Links
pub mod Entries
pub mod Stored
pub mod Loaded
pub mod Versions
