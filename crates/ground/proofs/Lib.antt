-- What follows of tests and their answers, for every crate.
pub mod Decided
pub mod OkOr
