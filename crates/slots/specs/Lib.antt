-- What the walks over the slots give, in the words of `rules`.
pub mod Walks
