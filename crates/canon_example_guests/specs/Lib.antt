pub mod Arena
