use Rattle.addr2line_names.proofs.FunctionNameLemmas.{refusal_is_final}
use Rattle.addr2line_names.proofs.laws.refusal_is_final.Goals as goal

pub returns : goal.returns
returns c = λ known h before after e is. refusal_is_final known h before after e is
