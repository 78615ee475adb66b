pub mod Components
pub mod Dropped
pub mod Logged
pub mod Played
pub mod Playing
pub mod TypedPlayed
