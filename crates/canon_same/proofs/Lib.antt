pub mod Definitions
pub mod Equivalence
pub mod Resources
pub mod Rows
pub mod Steps
pub mod TypeKinds
