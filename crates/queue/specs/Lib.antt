pub mod Carries
pub mod Held
pub mod Rank
pub mod Through
