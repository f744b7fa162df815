pub mod ErrorLine
pub mod Outcome
pub mod WriterBytes
pub mod WritingLimits
