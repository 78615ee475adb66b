pub mod Conversions
pub mod Lines
pub mod TextCalls
