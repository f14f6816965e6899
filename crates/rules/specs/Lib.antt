pub mod Rules
pub mod Held
pub mod Isolation
pub mod Laws
pub mod Cases
pub mod Working
