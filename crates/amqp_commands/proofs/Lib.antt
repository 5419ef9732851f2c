pub mod Sound
pub mod Known
pub mod Again
pub mod Found
pub mod Fine
pub mod Putting
