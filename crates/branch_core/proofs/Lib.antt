pub mod Below
pub mod Finding
