pub mod Nexts
pub mod Tables
pub mod States
