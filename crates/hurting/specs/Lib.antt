-- The definitions that the functions of this crate are promised equal to.
pub mod Hurting
