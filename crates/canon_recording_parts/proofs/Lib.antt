pub mod Agreeing
pub mod Formats
pub mod Laws
pub mod Reading
pub mod Tagged
pub mod Writing
