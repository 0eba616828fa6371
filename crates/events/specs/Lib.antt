-- What an operation comes to, for a chronicle: the definitions that the functions of this crate are promised equal to, and what is claimed of them.
pub mod Fates
pub mod Deeds
