-- Document 02, card 1: the points to come back to.
pub mod Points
