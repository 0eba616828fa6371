-- The numbers of saves, as the history gives them, and that a run keeps that of the one which the rule gives.
pub mod Numbers
pub mod Instances
