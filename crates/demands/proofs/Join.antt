-- A granted create that joins a patch is an acceptance of `cut`, and leaves a good history.
pub mod Slots
pub mod Ties
pub mod Leaves
