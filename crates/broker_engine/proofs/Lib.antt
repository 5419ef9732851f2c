pub mod Saying
pub mod Said
pub mod Hears
pub mod Own
