pub mod Laying
pub mod Hearers
pub mod Following
pub mod Sounding
