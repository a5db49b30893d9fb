-- What the private tests on one slot answer.
pub mod OneSlot
