use Rattle.std.proofs.Common.{◌≡◌, [], ◌∷◌, sym, ap, ◌∙◌}
use Rattle.gimli_units_entries.specs.NamedAttributes.{named_values}
use Rattle.gimli_units_entries.specs.TheConstants.{DW_AT_low_pc, DW_AT_high_pc, DW_AT_ranges}
use Rattle.gimli_units_entries.proofs.NamedAttributeLemmas.{named_values-no_name}
use Rattle.addr2line_functions.proofs.RangeAttributes.{without_ranges, steps_alike}
use Rattle.addr2line_functions.proofs.functions.read_range_attributes.Goals as goal

pub returns-else-has_ranges : goal.returns-else-has_ranges
returns-else-has_ranges g c =
    let limit = g.R.Offset.ReaderOffset.limit in
    let names = DW_AT_low_pc ∷ DW_AT_high_pc ∷ DW_AT_ranges ∷ [] in
    let declared = c.args.abbreviation.now.attributes in
    let w = c.args.entries.now in
    let none = sym c.has_ranges.ensures ∙ c.if-has_ranges.false in
    steps_alike _ _ _ _ (named_values limit [] _) (named_values limit names declared)
    (ap (λ ss. named_values limit [] ss w) c.attributes-specifications.ensures
    ∙ sym (named_values-no_name limit names declared w (without_ranges declared none)))
    c.read_named_attributes-else-has_ranges.ensures.value
