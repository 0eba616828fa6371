-- That a turn, stored back, is the step of the group, and that one that is refused changes nothing.
pub mod Same
pub mod Refused
pub mod Names
