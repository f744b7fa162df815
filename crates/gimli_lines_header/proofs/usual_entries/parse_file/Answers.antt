use Rattle.gimli_units_forms.proofs.PlaceLemmas.{IsAfter-same}
use Rattle.gimli_lines_header.proofs.UsualEntries.{file-after}
use Rattle.gimli_lines_header.proofs.usual_entries.parse_file.Goals as goal

pub bytes_before-count-requires : goal.bytes_before-count-requires
bytes_before-count-requires g c =
    IsAfter-same _ _ _ c.borrowed-place.ensures (file-after _ _ _ _ _ _ c.in_ok-file.ensures)
