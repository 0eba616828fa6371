-- A group seen as functions of cabinet numbers, each change of it in that view, and what every step keeps.
-- functions and sums
pub mod Fun
pub mod Leading
-- octets
pub mod Octets
-- what every step keeps
pub mod Every
pub mod Fixed
-- the view
pub mod View
pub mod Cells
pub mod Shape
pub mod Sim
-- the moves in the view
pub mod Methods
pub mod ViewMoves
-- the group at the start
pub mod Loaded
