-- Laws of numbers in bytes, and that a table written is read back.
pub mod Numbers
pub mod Laid
pub mod Length
pub mod RoundTrip
