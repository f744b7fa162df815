use Rattle.addr2line_spec.proofs.CallChains.{chain_step as lemma}
use Rattle.addr2line_spec.proofs.call_laws.chain_step.Goals as goal

pub returns : goal.returns
returns c = lemma
