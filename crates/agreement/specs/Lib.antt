-- What the contracts cite: a test that decides a fact, and a text that a buffer holds.
pub mod Tests
