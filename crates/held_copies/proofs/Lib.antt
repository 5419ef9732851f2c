pub mod Laning
pub mod Tying
pub mod Filling
