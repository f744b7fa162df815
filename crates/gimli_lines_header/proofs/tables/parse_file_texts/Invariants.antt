use Rattle.std.proofs.Common.{◌≡◌}
use Rattle.gimli_units_headers.specs.View.{bytes_left}
use Rattle.gimli_units_headers.specs.Repetition.{prepend, listing_in}
use Rattle.gimli_lines_header.specs.HeaderTables.{file_text}
use Rattle.gimli_lines_header.proofs.tables.parse_file_texts.Given as goal

-- the files so far, and then those that are left
abbrev pub invariant-loop-found : goal.invariant-loop-found
invariant-loop-found g l =
    let view = g.R.Reader.view in
    prepend l.found.items (listing_in bytes_left file_text (view l.input))
    ≡ listing_in bytes_left file_text (view l.fn.input)

abbrev pub decreases-loop-found : goal.decreases-loop-found
decreases-loop-found g l = bytes_left (g.R.Reader.view l.input)
