pub mod ErrorText
pub mod DecompressResults
pub mod DebugSectionNames
pub mod Compression
pub mod ImageTables
pub mod CompressedSections
pub mod DecompressedBytes
pub mod WrittenBytes
pub mod Decompression
pub mod StandardNumbers
pub use Rattle.addr2line_inflate.specs.StandardNumbers as ZlibNumbers
