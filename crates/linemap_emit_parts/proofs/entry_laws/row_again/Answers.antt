use Rattle.linemap_emit_parts.proofs.EntryRowsRead.{row_again as row_of_entry}
use Rattle.linemap_emit_parts.proofs.entry_laws.row_again.Goals as goal

pub returns : goal.returns
returns c =
    λ limit e end_offset depth is_big first x rest w fit.
    row_of_entry limit e end_offset depth is_big first x rest w.has_address_size fit
