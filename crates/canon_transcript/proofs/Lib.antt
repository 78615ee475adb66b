pub mod Digits
pub mod Names
pub mod Numbered
pub mod Pushed
pub mod Puts
pub mod Rows
