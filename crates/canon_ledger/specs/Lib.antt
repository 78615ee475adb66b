pub mod Books
pub mod Handles
pub mod Index
pub mod Laws
pub mod Ledger
pub mod Owed
pub mod Places
pub mod Reached
