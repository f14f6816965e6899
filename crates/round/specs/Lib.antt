pub mod Machines
pub mod Counts
pub mod Outcomes
