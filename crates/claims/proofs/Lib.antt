-- What is proved of every step and every run: `Answers` and `Claims` hold the theorems; `Fifo` serves that on lines, the others serve demand 3.
pub mod State
pub mod Answers
pub mod Invariant
pub mod Moves
pub mod Fifo
pub mod Word
pub mod Claims
