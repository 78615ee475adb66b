pub mod Counts
pub mod Guest
pub mod Journal
pub mod Memory
pub mod Realloc
pub mod Watch
