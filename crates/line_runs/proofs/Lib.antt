pub mod BreakLemmas
pub mod Handing
pub mod RunLemmas
pub mod Scans
pub mod Taking
pub mod TurnLemmas
pub mod Turning
pub mod Writing
