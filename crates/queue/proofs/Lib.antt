pub mod Carried
pub mod Cuts
pub mod Inserts
pub mod Places
pub mod Puts
pub mod Removes
pub mod Rounds
pub mod Walks
