use Rattle.addr2line_index.proofs.UnitViews.{places_by_numbers as lemma}
use Rattle.addr2line_index.proofs.index_laws.places_by_numbers.Goals as goal

pub returns : goal.returns
returns c = lemma
