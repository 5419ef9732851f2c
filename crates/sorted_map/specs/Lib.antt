pub mod Cuts
pub mod Lending
pub mod Map
