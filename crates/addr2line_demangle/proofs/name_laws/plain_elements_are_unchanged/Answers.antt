use Rattle.addr2line_demangle.proofs.PlainElements.{plain_elements_are_unchanged as lemma}
use Rattle.addr2line_demangle.proofs.name_laws.plain_elements_are_unchanged.Goals as goal

pub returns : goal.returns
returns c = lemma
