use Rattle.linemap_frames_laws.proofs.AgreeingFunctions.{functions_meet as meet}
use Rattle.linemap_frames_laws.proofs.frame_laws.functions_meet.Goals as goal

pub returns : goal.returns
returns c = λ number at us u gs a sound there agrees. meet number at us u gs a sound there agrees
