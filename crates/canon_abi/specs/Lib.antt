pub mod Alignment
pub mod Sizes
pub mod Numbers
pub mod Abi
pub mod Options
