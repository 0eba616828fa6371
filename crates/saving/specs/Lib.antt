-- The steps of a save, on the cabinets, lines and slots that they touch: the definitions that the functions of this crate are promised equal to.
pub mod Saving
