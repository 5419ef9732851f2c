pub mod Topics
pub mod Ahead
