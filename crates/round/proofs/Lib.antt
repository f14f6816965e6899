pub mod Rowing
pub mod Stacks
pub mod Arms
pub mod Readying
pub mod Finishing
pub mod Outputs
pub mod Starting
