pub mod Hub
pub mod Places
pub mod Rows
pub mod Stands
