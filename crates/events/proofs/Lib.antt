-- What is claimed of the fates and the deeds.
pub mod Laws
