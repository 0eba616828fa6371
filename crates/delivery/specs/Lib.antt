-- The step deliver, on the line, the receiver's cabinet and its lines: the definitions that the functions of this crate are promised equal to.
pub mod Delivery
