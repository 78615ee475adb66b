pub mod Events
pub mod Format
pub mod Read
pub mod Written
