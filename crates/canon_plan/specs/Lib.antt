pub mod NoHandle
pub mod CasePlan
pub mod Element
pub mod Plan
