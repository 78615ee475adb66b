pub mod Gen
pub mod Program
pub mod Streams
