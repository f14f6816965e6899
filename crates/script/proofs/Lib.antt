pub mod Runs
pub mod Pairs
