-- What a point that is taken, and a return, leave: the definitions that the functions of this crate are promised equal to.
pub mod Planning
