-- What the protocol claims of every run.
pub mod Stepping
pub mod Left
pub mod Demand
pub mod Bounds
pub mod Saves
pub mod Hurts
pub mod Points
pub mod During
pub mod NoClock
pub mod Fifo
pub mod Versions
pub mod Word
pub mod Written
pub mod Instances
pub mod Stores
