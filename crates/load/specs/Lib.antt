-- Document 01, "The group file" and "Load".
pub mod Load
pub mod Starts
pub mod Versions
