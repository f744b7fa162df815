pub use Rattle.linemap_emit_laws.proofs.LookupsWithoutLoads
pub use Rattle.linemap_emit_fits.proofs.EmissionSums
mod SectionAnswerLemmas
mod ServedEncodings
mod TableEmitterLemmas
mod UnitTextLemmas
pub mod FittingTables
