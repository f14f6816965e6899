pub mod Items
pub mod Ascending
pub mod Aging
