pub mod Conversions
pub mod Held
pub mod TypeLaws
pub mod Types
pub mod Laws
pub mod Parts
pub mod Steps
