-- What the proofs of the functions share.
pub mod Gathered
pub mod One
pub mod Rooms
pub mod Tested
