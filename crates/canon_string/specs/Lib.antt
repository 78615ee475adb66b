pub mod Limits
pub mod Loading
pub mod Texts
