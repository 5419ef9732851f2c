pub mod Routes
pub mod Exchanges
