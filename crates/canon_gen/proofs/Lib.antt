pub mod Common
pub mod Sessions
pub mod Sound
pub mod Steps
