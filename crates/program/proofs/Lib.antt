pub mod Defaults
pub mod Steps
pub mod Tables
pub mod Accepted
pub mod Layer
pub mod Shown
pub mod Verdicts
