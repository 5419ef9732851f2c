pub mod Breaks
pub mod Lines
pub mod Reading
pub mod ReadingInside
pub mod Run
pub mod Tool
pub mod Waiting
pub mod Write
