-- The chronicle of a run: what `chronicle::write_chronicle` is promised equal to.
pub mod Chronicle
pub mod Kept
