pub mod Expressions
pub mod Measures
pub mod Reading
pub mod Verdict
pub mod Sizing
pub mod Bounds
pub mod Programs
