use Rattle.linemap_meaning.proofs.LocationFiles.{file_there as lemma}
use Rattle.linemap_meaning.proofs.table_laws.file_there.Goals as goal

pub returns : goal.returns
returns c = lemma
