-- Packets: the definitions that the functions of this crate are promised equal to, and what they say of damage.
pub mod Packet
pub mod Bursts
