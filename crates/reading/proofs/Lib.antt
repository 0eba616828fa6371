-- What `all` answers over the entries.
pub mod Entries
