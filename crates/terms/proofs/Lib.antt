pub mod Cases
pub mod Setups
pub mod Small
