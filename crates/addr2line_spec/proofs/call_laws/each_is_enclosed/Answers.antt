use Rattle.addr2line_spec.proofs.EntryLevels.{each_is_enclosed as lemma}
use Rattle.addr2line_spec.proofs.call_laws.each_is_enclosed.Goals as goal

pub returns : goal.returns
returns c = lemma
