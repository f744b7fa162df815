pub mod LegacyElements
pub mod LegacyNameLaws
pub mod LegacyNames
pub mod LegacyPathView
