-- One cabinet: the definitions that the functions of this crate are promised equal to.
pub mod Alarm
pub mod Cabinet
