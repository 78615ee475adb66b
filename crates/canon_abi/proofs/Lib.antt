pub mod Members
pub mod Capped
pub mod Ties
pub mod Widths
