-- What a cabinet of the group does with a normal packet, a checkp and an invalid one is what it does on itself and its lines, stored back.
pub mod Stored
