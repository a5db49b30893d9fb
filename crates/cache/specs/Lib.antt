-- The code's table as the rules have it, and what its private functions take and make.
pub mod Seen
pub mod Outcome
pub mod Taking
