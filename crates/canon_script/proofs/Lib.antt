pub mod Cases
pub mod Declared
pub mod Imported
pub mod Members
pub mod Sound
pub mod TypedForm
pub mod Work
