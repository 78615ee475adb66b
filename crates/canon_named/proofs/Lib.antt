pub mod Definitions
pub mod SetNames
pub mod Texts
pub mod Zips
