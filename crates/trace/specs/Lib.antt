-- What a replay keeps between records, and what it prints.
pub mod Run
pub mod Printed
pub mod Seen
pub mod Inside
pub mod Replayed
pub mod Joint
pub mod OnStore
pub mod BadKinds
