-- What the proofs of the functions share.
pub mod SetOne
pub mod FreeRooms
pub mod One
pub mod HeldBack
pub mod Numbered
