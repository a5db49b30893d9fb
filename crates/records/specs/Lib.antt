-- What a record is, what the writer promises, and what the reader finds.
pub mod Record
pub mod Writer
pub mod Inside
pub mod Reader
pub mod RoundTrip
