pub mod Leaves
pub mod Lifts
pub mod Moves
pub mod Through
