pub mod Header
pub mod Results
pub mod Spelled
