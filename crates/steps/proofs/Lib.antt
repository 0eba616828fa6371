-- The records of a list one after the other; what a turn of the loop reads and stores; and that it is the operation of its record.
pub mod Records
pub mod Operations
pub mod Turning
pub mod Arms
pub mod Holding
pub mod One
