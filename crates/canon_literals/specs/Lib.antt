pub mod Literals
pub mod Resources
