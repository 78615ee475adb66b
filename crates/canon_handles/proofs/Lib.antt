pub mod CellsLemmas
pub mod FreshLemmas
pub mod HeldLemmas
pub mod StateLemmas
pub mod StepLemmas
pub mod TableLemmas
pub mod ValuesLemmas
