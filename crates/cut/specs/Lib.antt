-- A world without a table: changes, what each call may do to it, and what a cut leaves.
pub mod Changes
pub mod World
pub mod Cut
