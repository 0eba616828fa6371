-- A row of a chronicle: the definitions that the functions of this crate are promised equal to.
pub mod Rows
