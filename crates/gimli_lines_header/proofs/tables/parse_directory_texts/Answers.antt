use Rattle.std.proofs.Common.{rules}
use Rattle.gimli_units_headers.proofs.RefusedCalls.{returns_refused}
use Rattle.gimli_units_headers.proofs.Listings.{all_of_fault, all_of_end, listing_push, item_smaller}
use Rattle.gimli_units_forms.specs.AttributeValues.{raw_value_of}
use Rattle.gimli_lines_header.specs.HeaderTables.{directory_texts}
use Rattle.gimli_lines_header.proofs.TextSizes.{directory_text-shrinks}
use Rattle.gimli_lines_header.proofs.tables.parse_directory_texts.Goals as goal

pub loop-found-preserved : goal.loop-found-preserved
loop-found-preserved g c = listing_push directory_text-shrinks
    (raw_value_of g.R.Reader.view g.R.Offset.ReaderOffset.count) _ _ c.in-Some.directory _ _ _ c.loop-found.invariant
    (search rules) c.in_ok-push.ensures.items

pub loop-found-smaller : goal.loop-found-smaller
loop-found-smaller g c = let view = g.R.Reader.view in
    item_smaller directory_text-shrinks (view c.loop-found.input)
    (raw_value_of view g.R.Offset.ReaderOffset.count c.in-Some.directory) (view c.parse_directory_text.new.input)
    (search rules)

pub returns : goal.returns
unfolding directory_texts
returns g c = all_of_end directory_text-shrinks _ _ _ _ c.loop-found.invariant (search rules)

pub returns-in_err-directory : goal.returns-in_err-directory
unfolding directory_texts
returns-in_err-directory g c = returns_refused _ c.from_residual.result _ _ c.from_residual.ensures.1
    (λ ne. all_of_fault directory_text-shrinks _ _ _ _ c.loop-found.invariant (c.in_err-directory.ensures ne))
