pub mod Calls
pub mod Faithful
pub mod Imports
pub mod Laws
pub mod Made
pub mod Outcomes
pub mod Stores
