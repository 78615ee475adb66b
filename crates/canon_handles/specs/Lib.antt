pub mod Calls
pub mod Cells
pub mod Laws
pub mod Lending
pub mod LendingState
pub mod LendingTable
pub mod Step
pub mod Table
