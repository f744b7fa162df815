use Rattle.addr2line_names.proofs.FunctionNameLemmas.{own_name}
use Rattle.addr2line_names.proofs.laws.own_name_needs_no_reference.Goals as goal

pub returns : goal.returns
returns c = λ known other h before after a name free is. own_name known other h before after a name free is
