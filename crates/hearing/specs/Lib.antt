pub mod Hearing
pub mod Cells
