-- What a cabinet of the group does with resume, recover and fault is what it does on itself and its lines, stored back.
pub mod Stored
