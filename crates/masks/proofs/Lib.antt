-- What follows of sets of slots, for the proofs here and in the crates that stand on this one.
pub mod Digits
pub mod Laws
pub mod Lowest
pub mod SetSize
