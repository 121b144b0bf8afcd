pub mod RowTerms
pub mod RowsPlain
pub mod RowsWaits
pub mod RowsCancel
pub mod RowsStreams
pub mod RowsWorld
pub mod RowsVectors
pub mod RowsVoid
pub mod RowsViews
pub mod RowsOrder
mod CarriedExamples
mod CarriedMore
mod Instance
mod Edges
