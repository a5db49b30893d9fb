-- A granted complete is a landing of `cut`, and leaves a good history.
pub mod Slots
pub mod Lands
pub mod Leaves
