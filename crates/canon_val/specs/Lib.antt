pub mod Equal
pub mod EqualLaws
pub mod Laws
pub mod Value
