-- What the methods of the row of eight leave.
pub mod Mapped
