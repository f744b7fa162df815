-- The sections so far, and those that are left, are all.
use Rattle.std.proofs.Common.{◌≡◌, ◌++◌, drop}
use Rattle.linemap_image.specs.TableImages.{section_ids, named_sections}
use Rattle.linemap_image.proofs.table_image.named_sections.Given as goal

abbrev pub invariant-loop-id : goal.invariant-loop-id
invariant-loop-id l =
    l.named.items ++ named_sections l.sections (drop l.id-index l.id-items)
    ≡ named_sections l.sections (section_ids l.version)
