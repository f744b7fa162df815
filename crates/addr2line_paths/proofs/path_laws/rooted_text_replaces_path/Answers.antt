use Rattle.addr2line_paths.proofs.FilePathLemmas.{rooted_text_replaces_path as lemma}
use Rattle.addr2line_paths.proofs.path_laws.rooted_text_replaces_path.Goals as goal

pub returns : goal.returns
returns c = lemma
