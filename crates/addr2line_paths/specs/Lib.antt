pub mod FilePaths
pub mod FilePathLaws
