use Rattle.std.proofs.Common.{◌≡◌}
use Rattle.gimli_units_headers.specs.View.{bytes_left}
use Rattle.gimli_lines_header.specs.HeaderTables.{directory_text}
use Rattle.gimli_lines_header.proofs.CheckSteps.{ending_of}
use Rattle.gimli_lines_header.proofs.checks.check_directory_texts.Given as goal

-- how the texts from here on end
abbrev pub invariant-loop : goal.invariant-loop
invariant-loop g l =
    let view = g.I.Reader.view in
    ending_of bytes_left directory_text (view l.input) ≡ ending_of bytes_left directory_text (view l.fn.input)

abbrev pub decreases-loop : goal.decreases-loop
decreases-loop g l = bytes_left (g.I.Reader.view l.input)
