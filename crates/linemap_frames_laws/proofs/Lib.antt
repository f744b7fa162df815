mod RangeCounts
mod RangeOwners
mod CallDepths
mod AgreeingChains
pub mod AgreeingFunctions
pub mod AgreeingFrames
pub mod TableFrames
