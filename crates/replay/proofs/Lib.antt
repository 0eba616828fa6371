-- The steps that a list of records is, that a list's records are octets, and demand 3 of every moment of a run.
pub mod Steps
pub mod Moments
pub mod Operations
