-- The operations of a list of records: what the run of this crate is promised equal to, with the definitions of `protocol`.
pub mod Steps
