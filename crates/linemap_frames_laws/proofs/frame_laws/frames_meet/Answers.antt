use Rattle.linemap_frames_laws.proofs.AgreeingFrames.{frames_meet as meet}
use Rattle.linemap_frames_laws.proofs.frame_laws.frames_meet.Goals as goal

pub returns : goal.returns
returns c =
    λ us u ranges l agrees language found a sound there here. meet us u ranges l agrees language found a sound there
    here
