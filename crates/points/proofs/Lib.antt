-- The laws that the proofs of this crate share.
mod Places
mod Names
