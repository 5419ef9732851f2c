pub mod Codes
pub mod Spelling
pub mod Values
