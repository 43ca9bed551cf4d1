pub mod Laws
pub mod Priority
pub mod Sides
