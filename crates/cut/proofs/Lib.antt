-- The theorem is in Core, what it means for one byte in Places, the reason in Invariant and TakeBack.
pub mod Facts
pub mod TakeBack
pub mod Invariant
pub mod Order
pub mod Accept
pub mod Send
pub mod Turn
pub mod Core
