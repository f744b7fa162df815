pub mod LookupStretches
pub mod LookupStretchLaws
