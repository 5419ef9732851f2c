pub mod Keys
pub mod Chains
pub mod Spelling
pub mod Showing
