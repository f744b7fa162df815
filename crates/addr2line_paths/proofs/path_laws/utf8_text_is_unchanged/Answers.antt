use Rattle.addr2line_paths.proofs.FilePathLemmas.{utf8_text_is_unchanged as lemma}
use Rattle.addr2line_paths.proofs.path_laws.utf8_text_is_unchanged.Goals as goal

pub returns : goal.returns
returns c = lemma
