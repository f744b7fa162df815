use Rattle.linemap_frames_laws.proofs.AgreeingFunctions.{entries_meet as meets}
use Rattle.linemap_frames_laws.proofs.frame_laws.entries_meet.Goals as goal

pub returns : goal.returns
returns c = λ number at us u gs a sound there agrees. meets number at us u gs a sound there agrees
