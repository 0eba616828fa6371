-- What a record asks, which parts of the group it touches, what is done to them, and the group with them stored back.
pub mod Turns
pub mod Stored
