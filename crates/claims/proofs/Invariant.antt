-- The invariant behind demand 3: its facts, what they come to, and what a move owes of them.
-- states and versions
pub mod States
-- the facts
pub mod Facts
pub mod Whole
pub mod Staying
pub mod Past
-- what they come to
pub mod Logs
pub mod Words
pub mod Reaching
-- what a move owes
pub mod Frame
pub mod Marking
-- the points beside the group
pub mod Points
-- the start
pub mod Opening
