-- The laws that the proofs here lean on: the walk of one round, and taking back highest number first.
pub mod Striking
pub mod Back
pub mod Handed
pub mod ByKey
pub mod Most
