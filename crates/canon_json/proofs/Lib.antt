pub mod Found
pub mod JsonViews
