pub mod Kinds
pub mod Terms
pub mod Units
pub mod Spelled
