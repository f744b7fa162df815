use Rattle.linemap_meaning.proofs.TableCallChains.{chain_goes_down as lemma}
use Rattle.linemap_meaning.proofs.table_laws.chain_goes_down.Goals as goal

pub returns : goal.returns
returns c = lemma
