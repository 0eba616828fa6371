-- What a writing function leaves in its buffer, and what it does with a writer that it is lent.
pub mod Written
pub mod Added
