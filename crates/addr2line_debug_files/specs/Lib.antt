pub mod Crc32
pub mod Notes
pub mod DebugLinks
pub mod Candidates
pub mod NamedFiles
pub mod Searches
pub mod StandardNumbers
