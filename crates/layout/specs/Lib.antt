-- The octets of a chronicle: what the functions of this crate are promised equal to.
pub mod Layout
