use Rattle.std.proofs.Common.{sym, ap}
use Rattle.gimli_dwarf.specs.CachedFiles.{CachedFile}
use Rattle.gimli_dwarf.proofs.unit_ref.UnitRef.new.Goals as goal

pub invariant_of-result : goal.invariant_of-result
invariant_of-result g c = sym (ap (λ (d : CachedFile). d.file.offset_limit) c.dwarf.view_is)
