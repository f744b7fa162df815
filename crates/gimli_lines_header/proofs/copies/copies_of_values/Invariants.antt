-- The copies so far are alike with the first values.
use Rattle.std.proofs.Common.{◌≡◌, map, take}
use Rattle.gimli_units_forms.specs.AttributeValues.{raw_value_of}
use Rattle.gimli_lines_header.proofs.copies.copies_of_values.Given as goal

abbrev pub invariant-loop-value : goal.invariant-loop-value
invariant-loop-value g l =
    let see = raw_value_of g.R.Reader.view g.R.Offset.ReaderOffset.count in
    map see l.copies.items ≡ map see (take l.value-index l.values)
