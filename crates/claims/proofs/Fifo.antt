-- What each move and each kind of step leaves on the lines, beside what a line without bounds would hold.
pub mod Unbounded
-- the moves
pub mod Puts
pub mod Alarms
-- the kinds of step
pub mod Rooms
pub mod Delivers
pub mod Steps
