-- Closed runs, by computation over the definitions: the marked cases, whole recoveries, and runs with the answer to every record.
pub mod Marked
pub mod Examples
pub mod Returns
pub mod Outlets
pub mod Tempting
pub mod Losses
pub mod Trips
pub mod Unsure
pub mod OwnChecks
pub mod Words
pub mod Workshop
pub mod Partners
