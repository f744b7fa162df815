use Rattle.linemap_frames_laws.proofs.TableFrames.{tables_meet as meet}
use Rattle.linemap_frames_laws.proofs.frame_laws.tables_meet.Goals as goal

pub returns : goal.returns
returns g c = λ ranges frames us xs a sound agrees. meet ranges frames us xs a sound agrees
