use Rattle.gimli_units_forms.proofs.PlaceLemmas.{IsAfter-same}
use Rattle.gimli_lines_header.proofs.UsualEntries.{value-after, directory_found}
use Rattle.gimli_lines_header.proofs.usual_entries.parse_directory.Goals as goal

pub bytes_before-count-requires : goal.bytes_before-count-requires
bytes_before-count-requires g c =
    IsAfter-same _ _ _ c.borrowed-place.ensures (value-after _ _ _ _ _ _ c.in_ok-path.ensures)

pub returns-clause-value : goal.returns-clause-value
returns-clause-value g c =
    rw c.in-Path.is
    (directory_found _ _ _ _ _ _ _ _ c.borrowed-place.ensures c.in_ok-path.ensures c.bytes_before-count.ensures.rest)
