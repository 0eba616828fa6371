-- Which save the rule gives, as a run keeps it: the definitions that the functions of this crate are promised equal to.
pub mod Sorts
pub mod Newest
