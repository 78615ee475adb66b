pub mod Params
pub mod Results
pub mod Returned
pub mod Areas
pub mod Exactly
