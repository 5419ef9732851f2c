pub mod Keys
pub mod Links
pub mod Lists
pub mod Lending
