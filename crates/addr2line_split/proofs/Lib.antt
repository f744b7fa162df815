pub mod SectionAnswers
mod SplitCalls
mod Texts
