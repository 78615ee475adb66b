pub mod Bytes
pub mod Guests
pub mod Laws
pub mod Rows
pub mod Rules
pub mod Steps
