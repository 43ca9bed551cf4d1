pub mod Matching
pub mod BySide
pub mod Soundness
pub mod Books
pub mod Changes
pub mod Dispatch
pub mod Refusing
