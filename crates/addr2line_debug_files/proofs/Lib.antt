mod Crc32Lemmas
mod DebugFileExamples
mod FolderLemmas
mod NoteLemmas
