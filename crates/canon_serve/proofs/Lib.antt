pub mod Beginning
pub mod Calling
pub mod Exchanged
pub mod Passing
pub mod Sessions
pub mod Listed
