pub mod Messages
pub mod Setups
pub mod Values
