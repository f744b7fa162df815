use Rattle.addr2line_loader.proofs.AlikeFileLemmas.{loaded_alike}
use Rattle.addr2line_loader.proofs.part_laws.parts_are_loaded_alike.Goals as goal

pub returns : goal.returns
returns c = loaded_alike
