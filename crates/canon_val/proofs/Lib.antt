pub mod Equality
pub mod Copied
pub mod KeyedData
pub mod HandleValues
