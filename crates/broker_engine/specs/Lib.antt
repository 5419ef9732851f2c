pub mod Talk
pub mod Wire
pub mod Feeds
pub mod Trace
