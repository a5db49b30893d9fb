-- What the proofs of the functions share.
pub mod Listed
pub mod Made
pub mod Members
pub mod OnBlock
pub mod One
pub mod SetWhere
pub mod Walked
