-- What the block handed out is, whatever is handed in, and what the search under it gives.
pub mod Back
pub mod Handed
