-- What the functions' proofs cite, and that each answer is one.
pub mod WriteCases
pub mod Unissued
pub mod One
