pub use Rattle.linemap_emit_calls_laws.specs.CallAgreement
pub use Rattle.linemap_emit_calls_laws.specs.LookupFrameLaws
pub use Rattle.linemap_stretches_laws.specs.LookupStretches
pub mod RecordedTables
pub mod RecordedTableLaws
pub mod EmissionLaws
pub mod ListTables
pub mod UnitDifferences
