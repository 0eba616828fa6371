-- The rows of a chronicle one at a time, how long they are, and that the number which a run keeps is the history's.
pub mod Lengths
pub mod Turns
pub mod Same
pub mod Whole
