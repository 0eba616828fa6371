-- Each move and each kind of step keeps the invariant.
-- normal packets and notes
pub mod Noting
pub mod Sending
pub mod Dropping
pub mod Taking
-- going to normal with a resume
pub mod Rousing
pub mod Waking
-- saving: the cut
pub mod Joining
pub mod Comparing
pub mod Cutting
pub mod Beginning
-- saving: the store and the commit
pub mod Pieces
pub mod Writing
pub mod Reporting
pub mod CommitPairs
pub mod CommitNodes
pub mod CommitSums
pub mod Committing
pub mod Saving
pub mod Adopting
-- entering error
pub mod FirstFault
pub mod ErrorSeen
pub mod Erring
pub mod GoingOn
pub mod Hearing
pub mod Recovering
pub mod Faulted
pub mod Heeding
pub mod LinkFault
pub mod Hurting
pub mod Damaging
pub mod Losing
-- failing and tripping
pub mod Rehoming
pub mod Leaving
pub mod Undoing
pub mod Emptying
pub mod Failing
pub mod Alarming
pub mod FailPlaces
pub mod Unopened
pub mod FailStep
pub mod Tripping
pub mod TripStep
-- recovering
pub mod Fetching
pub mod ComingBack
pub mod Restoring
pub mod Remembering
pub mod EndPairs
pub mod EndNodes
pub mod Ending
pub mod RestoredStep
pub mod Resuming
-- the decision where nobody knows
pub mod Deciding
pub mod UnsureStep
pub mod WaitingOver
-- points and returns
pub mod Returning
-- every packet that comes
pub mod Delivering
