-- What a set of slots is.
pub mod Sets
pub mod Lowest
