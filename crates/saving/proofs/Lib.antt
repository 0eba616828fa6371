-- The steps of a save of the group are those on parts, stored back.
pub mod Stored
