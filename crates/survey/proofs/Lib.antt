-- What is asked of the row of cabinets, and of the group.
pub mod Rows
