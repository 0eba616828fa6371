-- The moves of one cabinet, on the cabinet and its outgoing lines: the definitions that the functions of this crate are promised equal to.
pub mod Seats
