-- Documents 01 and 02, section by section, in the order of 01. docs/READING.md has the section beside each file.
pub mod Sizes
pub mod Settings
pub mod Slots
pub mod Table
pub mod Open
pub mod Create
pub mod Write
pub mod Rounds
pub mod Complete
pub mod Ask
pub mod Count
pub mod Refusals
pub mod Texts
pub mod Passed
pub mod Calls
pub mod Joint
pub mod Rows
