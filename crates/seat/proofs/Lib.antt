-- What it means to take a seat out of a group and to put one into it.
pub mod Laws
pub mod Places
pub mod Same
