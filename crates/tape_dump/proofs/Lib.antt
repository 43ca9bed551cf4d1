pub mod Back
pub mod Digits
pub mod Lines
pub mod Pushes
