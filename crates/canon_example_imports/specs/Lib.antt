pub mod Component
pub mod Imports
