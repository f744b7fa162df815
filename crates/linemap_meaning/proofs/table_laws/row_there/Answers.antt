use Rattle.linemap_meaning.proofs.LocationFiles.{row_there as lemma}
use Rattle.linemap_meaning.proofs.table_laws.row_there.Goals as goal

pub returns : goal.returns
returns c = lemma
