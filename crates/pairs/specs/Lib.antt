-- What two runs agree in that differ in the amounts of workshop sends.
pub mod Covered
pub mod TwoRuns
pub mod Instances
