use Rattle.addr2line_names.proofs.FunctionNameLemmas.{circles}
use Rattle.addr2line_names.proofs.laws.circles_have_no_name.Goals as goal

pub returns : goal.returns
returns c = λ known one other v w to back references. circles known one other v w to back references
