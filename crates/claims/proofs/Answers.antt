-- Theorems about one step: what the step entry answers, and when the group crashes.
pub mod Tests
pub mod Answer
pub mod Deliver
pub mod Entry
