pub mod Laying
pub mod Touching
pub mod Octets
pub mod Lanes
pub mod Taking
pub mod Keeping
pub mod Back
