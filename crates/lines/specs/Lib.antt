-- How a line of the replay is spelled.
pub mod Decimal
pub mod Line
pub mod Counts
pub mod Laid
