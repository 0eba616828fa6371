-- What each change of the store keeps, and what it makes of each cabinet's home and slots.
pub mod Laws
pub mod Shared
