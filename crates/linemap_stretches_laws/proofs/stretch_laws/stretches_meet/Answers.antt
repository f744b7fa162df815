use Rattle.linemap_stretches_laws.proofs.TableLookupStretches.{stretches_meet as meet}
use Rattle.linemap_stretches_laws.proofs.stretch_laws.stretches_meet.Goals as goal

pub returns : goal.returns
returns g c = λ ranges lines us xs low high sound agrees. meet ranges lines us xs low high sound agrees
