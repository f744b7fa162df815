pub mod WritingLemmas
