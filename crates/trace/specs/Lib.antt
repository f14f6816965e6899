pub mod States
pub mod Calls
pub mod Lines
pub mod Promises
pub mod Cases
