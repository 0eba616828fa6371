-- How long the octets of lines and of a cabinet are.
pub mod Lengths
