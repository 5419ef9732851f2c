pub mod HexWords
pub mod Numbers
pub mod Parts
