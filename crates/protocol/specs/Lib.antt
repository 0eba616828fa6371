-- Documents 01 and 02 as definitions: the moves, the kinds of step, the step entry and the listing; points and returns; then
-- the history and demand 3, which word settled a recovery, the program that runs a plan, closed runs, and what the entry answers.
pub mod Moves
pub mod Receive
pub mod Kinds
pub mod Wait
pub mod Entry
pub mod Listing
pub mod Points
pub mod History
pub mod Restored
pub mod Word
pub mod Evening
pub mod Marked
pub mod Examples
pub mod Returns
pub mod Outlets
pub mod Tempting
pub mod Losses
pub mod Trips
pub mod Unsure
pub mod OwnChecks
pub mod Words
pub mod Workshop
pub mod Partners
pub mod Answers
pub mod Crash
