-- A group file and its step records run as one: the definitions that the functions of this crate are promised equal to.
pub mod Replay
