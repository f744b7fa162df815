use Rattle.addr2line_names.proofs.FunctionNameLemmas.{chains}
use Rattle.addr2line_names.proofs.laws.chains_are_limited.Goals as goal

pub returns : goal.returns
returns c = λ known h form v first further name leads to. chains known h form v first further name leads to
