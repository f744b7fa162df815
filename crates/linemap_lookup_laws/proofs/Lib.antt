mod FrameLanguages
mod FrameAgreement
mod AddressAnswers
mod TableRuns
