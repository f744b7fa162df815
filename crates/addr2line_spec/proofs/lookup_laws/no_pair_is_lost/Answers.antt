use Rattle.addr2line_spec.proofs.PairOrder.{no_pair_is_lost as lemma}
use Rattle.addr2line_spec.proofs.lookup_laws.no_pair_is_lost.Goals as goal

pub returns : goal.returns
returns g c = lemma
