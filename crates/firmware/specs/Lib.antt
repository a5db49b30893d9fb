-- Runs of a firmware over the library's functions, the joint call in them, and the history that each one is.
pub mod Run
pub mod Joint
pub mod Answers
