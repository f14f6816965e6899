pub mod Arriving
pub mod Calls
