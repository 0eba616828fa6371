-- Texts written one after the other, and the digits of a number.
pub mod Texts
pub mod Digits
