use Rattle.linemap_meaning.proofs.SoundFits.{sound_fits_8 as lemma}
use Rattle.linemap_meaning.proofs.table_laws.sound_fits_8.Goals as goal

pub returns : goal.returns
returns c = lemma
