pub mod HandleFields
pub mod RefusalCodes
mod KeptAnswers
mod KeptStretches
mod LoadNumbers
mod MemoryNumber
mod WrittenSlices
mod NumberTexts
mod OpenNumbers
