pub mod Contents
pub mod Calls
pub mod Limits
pub mod Search
pub mod Law
