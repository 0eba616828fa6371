-- A group file and a plan run as one: the definitions that the functions of this crate are promised equal to.
pub mod Plans
