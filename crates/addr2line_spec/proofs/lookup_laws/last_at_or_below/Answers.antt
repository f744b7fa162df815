use Rattle.addr2line_spec.proofs.RowLookup.{last_at_or_below as lemma}
use Rattle.addr2line_spec.proofs.lookup_laws.last_at_or_below.Goals as goal

pub returns : goal.returns
returns c = lemma
