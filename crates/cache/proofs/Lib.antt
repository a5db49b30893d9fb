-- How each answer of a call is shown from plain facts; the functions' proofs cite these.
pub mod Early
pub mod Looks
pub mod Sent
pub mod Accepted
pub mod Joint
