use Rattle.linemap_emit_laws.proofs.EmittedUnitLemmas.{emission_recorded}
use Rattle.linemap_emit_laws.proofs.emission_laws.emission_records.Goals as goal

pub returns : goal.returns
returns c = emission_recorded
