pub mod Decimals
pub mod Encodings
pub mod Inverses
pub mod Numbers
pub mod ReadAll
pub mod Runs
pub mod Words
