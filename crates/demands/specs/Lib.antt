-- Histories of calls, the joint call in them, what a cut leaves of them, the life that several make, and the two questions.
pub mod History
pub mod Demand3
pub mod Joint
pub mod Life
pub mod QuestionFour
pub mod QuestionSeven
