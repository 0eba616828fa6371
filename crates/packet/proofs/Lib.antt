-- What holds of packets that damage hits.
pub mod Bursts
