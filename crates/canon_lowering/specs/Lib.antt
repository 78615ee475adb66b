pub mod Steps
pub mod Stages
pub mod Lowering
pub mod Storing
pub mod Texts
pub mod Attempt
pub mod Copies
pub mod Carried
