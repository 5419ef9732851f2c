pub mod Filtering
pub mod Owning
pub mod Gathering
pub mod Unbinding
pub mod Rising
