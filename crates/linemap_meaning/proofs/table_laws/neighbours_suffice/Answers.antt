use Rattle.linemap_meaning.proofs.TableRangeLemmas.{neighbours_suffice as lemma}
use Rattle.linemap_meaning.proofs.table_laws.neighbours_suffice.Goals as goal

pub returns : goal.returns
returns c = lemma
