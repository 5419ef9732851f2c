pub mod Keeping
pub mod Reaching
pub mod Receiving
pub mod Sending
