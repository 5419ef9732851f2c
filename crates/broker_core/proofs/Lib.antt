pub mod Counting
pub mod Ending
pub mod Fine
pub mod Results
pub mod Sounding
pub mod Writing
