use Rattle.linemap_emit_parts.proofs.EntryListsRead.{rows_again as rows_of_entries}
use Rattle.linemap_emit_parts.proofs.entry_laws.rows_again.Goals as goal

pub returns : goal.returns
returns c =
    λ limit choice e end_offset depth is_big first xs w fit.
    rows_of_entries limit choice e end_offset depth is_big first xs w.has_address_size fit
