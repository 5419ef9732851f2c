pub mod Showing
pub mod Coursing
pub mod Taking
pub mod Running
pub mod Reframing
