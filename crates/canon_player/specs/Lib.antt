pub mod Options
pub mod Session
pub mod Signatures
pub mod Steps
pub mod Stores
