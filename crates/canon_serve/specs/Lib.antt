pub mod Asks
pub mod Begins
pub mod Carries
pub mod Errors
pub mod Images
pub mod Messages
pub mod Sessions
