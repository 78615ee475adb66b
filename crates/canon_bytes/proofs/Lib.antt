pub mod LowBytes
pub mod Numbers
