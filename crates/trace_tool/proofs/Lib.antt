pub mod Pieces
pub mod Linking
