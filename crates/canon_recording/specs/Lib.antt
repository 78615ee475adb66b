pub mod Coded
pub mod Decided
pub mod Fits
pub mod Laws
pub mod Recordable
pub mod Recordings
pub mod Stages
