pub mod Asked
pub mod Entries
pub mod Lines
pub mod Words
