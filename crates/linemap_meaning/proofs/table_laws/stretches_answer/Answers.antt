use Rattle.linemap_meaning.proofs.TableStretches.{stretches_answer as lemma}
use Rattle.linemap_meaning.proofs.table_laws.stretches_answer.Goals as goal

pub returns : goal.returns
returns c = lemma
