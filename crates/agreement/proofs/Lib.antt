-- A text that the library stores.
mod Stored
