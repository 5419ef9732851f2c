pub mod Keeper
pub mod Kept
pub mod Rows
