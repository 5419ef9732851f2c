pub mod Credit
pub mod Turns
