pub mod Equality
pub mod Headers
