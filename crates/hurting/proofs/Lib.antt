-- That damage and lose on parts, stored back, are those of the group.
pub mod Stored
