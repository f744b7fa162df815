pub mod CommandLine
pub mod Explain
pub mod MistakeTexts
pub mod RefusalCodes
pub mod WordsRequest
pub mod WordsStatus
