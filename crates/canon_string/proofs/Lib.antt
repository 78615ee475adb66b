pub mod TextForms
pub mod TextBlocks
pub mod TextPaths
pub mod TextLoading
