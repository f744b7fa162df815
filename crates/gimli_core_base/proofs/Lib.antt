pub mod StepParts
pub mod StepSizes
pub mod Listings
pub mod RefusedCalls
pub mod Times
pub mod PrefixReads
pub mod LebStrings
mod LebSigns
mod ByteWeights
mod Spellings
mod LebRoundTrip
pub mod LebStringLaws
pub mod NumberReadSizes
pub mod NumberRoundTrip
