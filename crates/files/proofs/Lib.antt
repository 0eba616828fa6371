-- What a read adds to the front of a buffer.
mod Front
