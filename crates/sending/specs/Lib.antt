pub mod Kept
pub mod Sending
