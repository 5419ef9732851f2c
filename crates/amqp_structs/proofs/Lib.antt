pub mod Again
pub mod Found
pub mod Loops
pub mod Public
pub mod Results
pub mod Fine
