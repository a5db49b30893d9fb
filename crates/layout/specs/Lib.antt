-- A table as bytes.
pub mod Layout
