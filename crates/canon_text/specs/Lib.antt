pub mod Writing
pub mod Runs
pub mod Surrogates
pub mod TwoBytes
pub mod Faults
pub mod Answers
pub mod Decoding
pub mod Laws
