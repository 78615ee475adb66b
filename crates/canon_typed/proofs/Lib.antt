pub mod Layouts
pub mod TooLarge
