pub mod Firsts
pub mod Ranges
pub mod RangesOfTrees
pub mod Views
pub mod Iteration
pub mod Scalars
