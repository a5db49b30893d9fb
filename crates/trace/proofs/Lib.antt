-- What the proofs of the functions share, and what is shown of a run.
pub mod CallsMade
pub mod Taken
pub mod OneAnswer
pub mod Printed
pub mod Example
pub mod HowMany
pub mod Counted
pub mod Holds
pub mod Told
pub mod OnStore
pub mod Joint
pub mod BadKinds
