pub mod Lines
pub mod Messages
pub mod Numbers
pub mod Readings
pub mod Setups
pub mod Text
