use Rattle.linemap_frames_laws.proofs.AgreeingChains.{chains_meet as meet}
use Rattle.linemap_frames_laws.proofs.frame_laws.chains_meet.Goals as goal

pub returns : goal.returns
returns c = λ number us u f flat a sound there here agrees. meet number us u f flat a sound there here agrees
