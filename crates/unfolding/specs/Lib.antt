pub mod Unfolding
pub mod Walks
