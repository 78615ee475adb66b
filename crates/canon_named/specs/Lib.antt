pub mod Desc
pub mod FlagText
pub mod Named
