-- That the checks on parts are those on the group.
pub mod Stored
