-- A cabinet with its outgoing lines: the definitions that the functions of this crate are promised equal to.
pub mod Seat
