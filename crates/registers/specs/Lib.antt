-- The check registers of one cabinet: the definitions that the functions of this crate are promised equal to.
pub mod Registers
