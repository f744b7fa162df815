use Rattle.addr2line_index.proofs.UnitViews.{stretches_of_views as lemma}
use Rattle.addr2line_index.proofs.index_laws.stretches_of_views.Goals as goal

pub returns : goal.returns
returns g c = lemma
