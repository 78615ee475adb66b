pub mod Blocks
pub mod Bytes
pub mod Doing
pub mod Fitting
pub mod Following
pub mod Guests
pub mod Passing
