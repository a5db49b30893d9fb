-- A granted write is a sending of `cut`, and leaves a good history.
pub mod Slots
pub mod Left
pub mod Back
pub mod Sends
pub mod Numbers
pub mod Leaves
