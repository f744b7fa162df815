use Rattle.std.proofs.Common.{ap, sym, ◌∙◌}
use Rattle.std.specs.Prelude.{is_some}
use Rattle.addr2line_lookups.proofs.CallsOfUnits.{same_there}
use Rattle.addr2line_lookups.proofs.lookups.waits_at.Goals as goal

pub returns : goal.returns
returns g c = c.is_some.ensures ∙ sym (same_there _ c.load_at.result) ∙ ap is_some c.load_at.ensures
