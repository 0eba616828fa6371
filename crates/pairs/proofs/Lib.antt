-- Why two runs that differ in the amounts of workshop sends agree: every move makes of a covered group what it makes of the group, covered.
pub mod Parts
pub mod Cabinets
pub mod Stores
pub mod Groups
pub mod Steps
pub mod Amounts
pub mod Points
pub mod TwoRuns
pub mod Instances
