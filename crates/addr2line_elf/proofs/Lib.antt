mod Loads
pub mod TextLemmas
mod NameLemmas
mod NamePartLemmas
mod SymbolNames
mod FirstHighestSymbol
mod FilePartLemmas
mod RangeReads
mod LoadedPartLemmas
mod SymbolChoice
mod SymbolStretchLemmas
mod SymbolSweepLemmas
