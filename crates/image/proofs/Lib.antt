-- What holds of images.
pub mod Laws
