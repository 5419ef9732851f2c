pub mod Hearing
pub mod Line
pub mod Linked
pub mod Replay
pub mod Tool
