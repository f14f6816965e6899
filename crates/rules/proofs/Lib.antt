pub mod Isolation
pub mod Followed
pub mod Elsewhere
pub mod Cases
pub mod Holding
