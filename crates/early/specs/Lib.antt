-- What create and write refuse early, as lists of cases.
pub mod Early
