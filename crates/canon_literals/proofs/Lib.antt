pub mod Filled
pub mod Held
pub mod Same
pub mod Views
