mod Lifting
mod Lowering
mod Types
