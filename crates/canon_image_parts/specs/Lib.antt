pub mod Stops
pub mod Laws
pub mod Numbered
pub mod Written
pub mod Read
