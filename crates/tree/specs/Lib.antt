pub mod Trees
pub mod Walks
