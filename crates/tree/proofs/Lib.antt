pub mod Passing
pub mod Branches
pub mod RoundTrips
