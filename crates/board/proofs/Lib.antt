-- How each answer of a call is shown, that it is one, and that what a call leaves is kept.
pub mod Answers
pub mod OneAnswer
pub mod Recorded
pub mod Kept
pub mod Joint
