use Rattle.linemap_meaning.proofs.TableCallChains.{one_way_down as lemma}
use Rattle.linemap_meaning.proofs.table_laws.one_way_down.Goals as goal

pub returns : goal.returns
returns c = lemma
