pub mod Sorting
pub mod Changing
pub mod Cutting
pub mod Ordering
pub mod Keying
pub mod Showing
