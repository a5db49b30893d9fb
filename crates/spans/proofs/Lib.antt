-- What follows of bytes laid over bytes, for the proofs here and in the crates that stand on this one.
pub mod Laws
