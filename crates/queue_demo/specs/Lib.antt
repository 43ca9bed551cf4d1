pub mod Demo
pub mod Levels
pub mod Reports
pub mod Sample
