pub mod NoHandleKinds
pub mod CasePlans
pub mod Flats
pub mod TypeKinds
pub mod Lookups
pub mod Pairs
pub mod ScalarTypes
