-- The definitions and laws of marks, rows of marks and the reach check.
pub mod Marks
pub mod Reach
pub mod MarksLaws
pub mod ReachLaws
