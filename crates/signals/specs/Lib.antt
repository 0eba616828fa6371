-- What a cabinet does with resume, recover and fault, on the cabinet and its lines: the definitions that the functions of this crate are promised equal to.
pub mod Signals
