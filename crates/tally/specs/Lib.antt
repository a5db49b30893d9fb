-- How many changes the patches of a table stand for.
pub mod Counts
