pub mod Draws
pub mod Lines
pub mod Made
pub mod Records
