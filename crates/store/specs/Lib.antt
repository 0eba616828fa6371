-- The definitions that the functions of this crate are promised equal to, and what holds of every store.
pub mod Store
pub mod Served
pub mod Share
