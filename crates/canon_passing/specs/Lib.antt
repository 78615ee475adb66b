pub mod Args
pub mod Passed
pub mod Words
