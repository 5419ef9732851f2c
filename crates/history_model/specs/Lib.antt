pub mod Arrivals
pub mod Life
pub mod Standing
pub mod State
pub mod Answers
pub mod Pairs
pub mod Report
