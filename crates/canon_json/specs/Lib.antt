pub mod Hex
pub mod Json
