pub mod Fitting
pub mod Following
pub mod Lawful
pub mod Leaves
pub mod Moves
pub mod Passing
pub mod Replaying
