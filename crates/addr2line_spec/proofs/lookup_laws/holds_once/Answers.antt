use Rattle.addr2line_spec.proofs.SeparateRanges.{holds_once as lemma}
use Rattle.addr2line_spec.proofs.lookup_laws.holds_once.Goals as goal

pub returns : goal.returns
returns g c = lemma
