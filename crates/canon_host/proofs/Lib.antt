pub mod Counts
pub mod Importing
pub mod Serving
pub mod ServingTyped
pub mod TypedAsked
pub mod TypedSteps
pub mod TypedAnswers
pub mod Unlogged
