use Rattle.std.proofs.Common.{rules, ◌∙◌, sym, ap, List}
use Rattle.gimli_units_headers.proofs.RefusedCalls.{returns_refused}
use Rattle.gimli_units_headers.specs.View.{bytes_left}
use Rattle.gimli_units_headers.specs.Repetition.{prepend, listing_in}
use Rattle.gimli_units_headers.proofs.Listings.{all_of_fault, all_of_end, listing_item, item_smaller}
use Rattle.gimli_lines_header.specs.LineFiles.{FileFacts}
use Rattle.gimli_lines_header.specs.HeaderTables.{file_text, file_texts}
use Rattle.gimli_lines_header.proofs.TextSizes.{file_text-shrinks}
use Rattle.gimli_lines_header.proofs.tables.parse_file_texts.Goals as goal

pub loop-found-preserved : goal.loop-found-preserved
loop-found-preserved g c =
    let view = g.R.Reader.view in
    ap (λ (files : List FileFacts). prepend files (listing_in bytes_left file_text (view c.parse_file_text.new.input)))
    c.in_ok-push.ensures.items
    ∙ sym (listing_item file_text-shrinks c.loop-found.found.items c.in-Some.file (view c.loop-found.input)
    (view c.parse_file_text.new.input) (search rules))
    ∙ c.loop-found.invariant

pub loop-found-smaller : goal.loop-found-smaller
loop-found-smaller g c = let view = g.R.Reader.view in
    item_smaller file_text-shrinks (view c.loop-found.input) c.in-Some.file (view c.parse_file_text.new.input)
    (search rules)

pub returns : goal.returns
unfolding file_texts
returns g c = all_of_end file_text-shrinks _ _ _ _ c.loop-found.invariant (search rules)

pub returns-in_err-file : goal.returns-in_err-file
unfolding file_texts
returns-in_err-file g c = returns_refused _ c.from_residual.result _ _ c.from_residual.ensures.1
    (λ ne. all_of_fault file_text-shrinks _ _ _ _ c.loop-found.invariant (c.in_err-file.ensures ne))
