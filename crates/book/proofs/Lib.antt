pub mod OnSides
pub mod Carrying
pub mod Changes
pub mod Plays
pub mod Refusing
pub mod Allowed
