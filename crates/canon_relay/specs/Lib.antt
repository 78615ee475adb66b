pub mod Channel
pub mod Ends
pub mod Memories
pub mod Relay
pub mod Wire
