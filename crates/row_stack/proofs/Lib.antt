pub mod Laying
pub mod Cells
