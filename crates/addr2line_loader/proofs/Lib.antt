mod AnsweredLoads
mod AskedUnits
mod FrameReads
mod FoundPlaces
mod FoundFrames
mod SupplementSections
mod FileReadLemmas
mod AlikeFileLemmas
