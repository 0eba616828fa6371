-- What a cabinet does with a normal packet, a checkp and an invalid one: the definitions that the functions of this crate are promised equal to.
pub mod Linkcheck
