pub mod Standing
pub mod Meeting
pub mod Saying
