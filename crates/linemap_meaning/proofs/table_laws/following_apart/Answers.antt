use Rattle.linemap_meaning.proofs.TableRangeLemmas.{following_apart as lemma}
use Rattle.linemap_meaning.proofs.table_laws.following_apart.Goals as goal

pub returns : goal.returns
returns c = lemma 0
