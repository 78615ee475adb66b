pub mod Answering
pub mod Blocks
pub mod Exchanges
pub mod Moves
pub mod Numbers
