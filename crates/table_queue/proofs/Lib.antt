pub mod Fronts
pub mod Meanings
pub mod Perms
