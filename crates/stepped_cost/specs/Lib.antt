pub mod Stepped
pub mod StepRows
pub mod Pieces
pub mod StepRowsLemmas
