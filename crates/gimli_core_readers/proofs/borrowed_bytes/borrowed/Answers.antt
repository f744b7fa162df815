use Rattle.std.proofs.Common.{◌∙◌}
use Rattle.gimli_core_readers.proofs.PlaceLemmas.{view_is}
use Rattle.gimli_core_readers.proofs.borrowed_bytes.borrowed.Goals as goal

pub returns : goal.returns
returns g c = c.with_first_id.ensures ∙ view_is _ _ _ _ c.as_bytes.ensures.value c.endian.ensures c.offset_id.ensures
