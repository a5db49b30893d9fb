-- A granted create is an acceptance of `cut`, and leaves a good history.
pub mod Slots
pub mod Undo
pub mod Ties
pub mod Leaves
