pub mod Actions
pub mod Allocator
pub mod Leaves
pub mod Orders
pub mod Scripted
