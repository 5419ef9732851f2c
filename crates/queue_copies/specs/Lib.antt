pub mod Shelves
pub mod Copied
pub mod Sound
pub mod Iter
