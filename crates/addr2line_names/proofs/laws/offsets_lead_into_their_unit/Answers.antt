use Rattle.addr2line_names.proofs.UnitOffsetLemmas.{offsets_lead_into_their_unit}
use Rattle.addr2line_names.proofs.laws.offsets_lead_into_their_unit.Goals as goal

pub returns : goal.returns
returns c =
    λ most file s before after u offset place read stand inside. offsets_lead_into_their_unit most file s before after u
    offset place read stand inside
