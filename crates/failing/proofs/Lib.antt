-- The turns of the loops over the eight cabinets.
mod Turns
