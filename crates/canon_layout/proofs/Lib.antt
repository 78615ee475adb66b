pub mod FuncLines
pub mod Known
pub mod Offsets
pub mod Reading
pub mod Told
