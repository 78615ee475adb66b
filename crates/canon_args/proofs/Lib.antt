pub mod Near
pub mod Far
pub mod Tuples
pub mod Areas
pub mod Exactly
