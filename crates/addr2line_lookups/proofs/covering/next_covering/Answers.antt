use Rattle.std.proofs.Common.{◌∙◌, ◌∷◌, sym, ap, drop}
use Rattle.addr2line_unit.specs.NumberedRanges.{covering_ranges}
use Rattle.addr2line_lookups.proofs.covering.next_covering.Goals as goal

pub returns : goal.returns
returns c =
    let a = c.args in
    let r = c.in_ok-range.range in (
      r.range,
      ap (λ n. covering_ranges a.probe (drop n a.ranges.now)) (sym c.at.ensures)
          ∙ c.in_ok-range.ensures
          ∙ ap (λ n. r ∷ covering_ranges a.probe (drop n a.ranges.now)) (sym c.index.ensures),
    )
