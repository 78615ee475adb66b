pub mod Asked
pub mod Forms
pub mod HostSide
pub mod Imports
pub mod Serves
pub mod ServesTyped
pub mod TypedAsks
