-- Laws of numbers in decimal and of lines.
pub mod Digits
pub mod Decimal
pub mod FromTheRight
pub mod Steps
pub mod Examples
