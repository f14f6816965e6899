pub mod Near
pub mod Programs
pub mod Decoding
pub mod Checked
pub mod Bodies
