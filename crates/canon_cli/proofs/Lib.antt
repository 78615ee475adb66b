pub mod Inputs
pub mod Numbers
pub mod Pieces
