-- That send and note on parts, stored back, are the steps of the group.
pub mod Stored
