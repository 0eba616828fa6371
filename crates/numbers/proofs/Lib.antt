-- That the number which a run keeps is the one that the history gives: one operation, and every list of them.
pub mod Follows
pub mod Numbers
pub mod Instances
