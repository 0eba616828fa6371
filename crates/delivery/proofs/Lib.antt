-- Deliver of the group is deliver on the line and the receiver, stored back.
pub mod Stored
