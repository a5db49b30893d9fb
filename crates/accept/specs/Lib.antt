-- What create's questions are answered by, in the words of `rules`, and what the private tests answer.
pub mod Asked
pub mod OneSlot
