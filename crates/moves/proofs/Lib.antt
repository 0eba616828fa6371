-- A move of the group is the move of one cabinet with its lines, stored back.
pub mod Stored
