-- What the verdict on a table says, and what the private tests decide.
pub mod Verdict
pub mod SlotSound
