-- The lemmas of `crc`: `Laws` and `Xor` are for other crates too, `Rules` serves the proof of `octet`.
pub mod Xor
pub mod Laws
pub mod Rules
