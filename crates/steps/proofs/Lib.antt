pub mod Stepping
pub mod Leaves
