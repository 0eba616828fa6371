-- A load's answer by its refusal.
pub mod Refused
