-- What is claimed of every run beside demand 3, which is in `protocol.Restored`: bounds, what a step leaves on each line, saves, hurts, points and stores,
-- that reports bring back what the wait did; and instances of it in closed runs.
pub mod Bounds
pub mod Fifo
pub mod Saves
pub mod Hurts
pub mod Points
pub mod NoClock
pub mod Word
pub mod Stores
pub mod Instances
