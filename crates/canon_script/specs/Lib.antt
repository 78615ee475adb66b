pub mod Actions
pub mod Imports
pub mod Numbers
pub mod Script
pub mod Typed
pub mod Types
pub mod Values
