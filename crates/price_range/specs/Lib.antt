pub mod Bands
pub mod Quotes
