-- What it is to decide a question.
pub mod Decides
