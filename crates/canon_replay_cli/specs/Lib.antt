pub mod Lines
pub mod Program
pub mod Recorded
pub mod Replays
pub mod Scripts
pub mod Taken
