-- What is proved of records besides their functions: numbers in bytes, what the writer's functions come to, and that reading back gives the same calls.
pub mod Numbers
pub mod Forms
pub mod Found
pub mod Values
pub mod Recorded
pub mod CallsMade
pub mod Reading
pub mod ReadBack
pub mod Beginning
pub mod RoundTrip
pub mod Only
pub mod OneAnswer
