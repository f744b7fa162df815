use Rattle.addr2line_demangle.proofs.PathGrammar.{paths_are_read as lemma}
use Rattle.addr2line_demangle.proofs.name_laws.paths_are_read.Goals as goal

pub returns : goal.returns
returns c = lemma
