pub mod Reading
pub mod Spelling
pub mod Spelled
pub mod Typed
pub mod Lent
