pub mod Xids
pub mod Held
pub mod State
pub mod Faults
pub mod Acts
