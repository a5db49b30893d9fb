-- What bytes laid over bytes give.
pub mod Spans
