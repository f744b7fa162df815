use Rattle.addr2line_demangle.proofs.PathGrammar.{only_paths_are_read as lemma}
use Rattle.addr2line_demangle.proofs.name_laws.only_paths_are_read.Goals as goal

pub returns : goal.returns
returns c = lemma
