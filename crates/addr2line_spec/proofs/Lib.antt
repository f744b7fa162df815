pub mod SeparateRanges
pub mod PairOrder
pub mod RowLookup
mod PlaceExamples
mod ContextExamples
pub mod CallChains
pub mod PendingLoads
pub mod LookupsWithoutLoads
pub mod RangeHolders
pub mod EntryLevels
mod InlinedCallExamples
mod FirstAnswerExamples
