pub mod Layers
pub mod Pairwise
pub mod Both
