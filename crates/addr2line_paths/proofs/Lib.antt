pub mod FilePathLemmas
mod FilePathExamples
