-- What each exported function promises.
pub mod Calls
pub mod Records
pub mod Joint
