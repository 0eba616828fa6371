-- The steps of a recovery of the group are those on parts, stored back.
pub mod Stored
