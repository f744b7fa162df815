use Rattle.std.proofs.Common.{map, ◌≡◌}
use Rattle.gimli_units_headers.specs.View.{bytes_left}
use Rattle.gimli_units_headers.specs.Repetition.{prepend, listing_in}
use Rattle.gimli_units_forms.specs.AttributeValues.{raw_value_of}
use Rattle.gimli_lines_header.specs.HeaderTables.{directory_text}
use Rattle.gimli_lines_header.proofs.tables.parse_directory_texts.Given as goal

-- the directories so far, and then those that are left
abbrev pub invariant-loop-found : goal.invariant-loop-found
invariant-loop-found g l =
    let view = g.R.Reader.view in
    prepend (map (raw_value_of view g.R.Offset.ReaderOffset.count) l.found.items)
    (listing_in bytes_left directory_text (view l.input)) ≡ listing_in bytes_left directory_text (view l.fn.input)

abbrev pub decreases-loop-found : goal.decreases-loop-found
decreases-loop-found g l = bytes_left (g.R.Reader.view l.input)
