use Rattle.addr2line_spec.proofs.CallChains.{depths_follow as lemma}
use Rattle.addr2line_spec.proofs.call_laws.depths_follow.Goals as goal

pub returns : goal.returns
returns c = lemma
