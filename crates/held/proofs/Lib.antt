pub mod Reading
pub mod Counting
pub mod Turns
pub mod Senders
