use Rattle.std.proofs.Common.{◌<◌, length, subst, ap, arith}
use Rattle.std.specs.Prelude.{All}
use Rattle.gimli_units_forms.specs.AbbreviationViews.{attribute_view}
use Rattle.gimli_units_entries.specs.SureWidths.{IsByte}
use Rattle.gimli_units_entries.proofs.NamedAttributeLemmas.{fewer_left}
use Rattle.gimli_units_entries.proofs.PassedAttributeLemmas.{passes-none, passes-more}
use Rattle.gimli_units_entries.proofs.SureWidthLemmas.{slice_bytes}
use Rattle.gimli_units_entries.proofs.named.run_of_others.Goals as goal

pub loop-left-init : goal.loop-left-init
loop-left-init g c = record {
  passes = λ limit wide. passes-none attribute_view limit c.args.names.now c.args.encoding _ c.args.place.now;
  within = omega arith;
  fewer = omega arith;
}

pub loop-left-preserved : goal.loop-left-preserved
loop-left-preserved g c =
    let some : 0 < length c.loop-left.left.now = omega (arith, c.in-len1-up.len_at_least) in
    let bytes : All IsByte c.args.place.now.bytes =
    subst (All IsByte) c.slice-bytes.ensures (slice_bytes _ c.are_bytes.ensures) in
    let many = ap length c.slice-bytes.ensures in
    record {
      passes = λ limit wide.
          passes-more attribute_view limit c.args.names.now c.args.encoding _ c.args.place.now c.loop-left.left.now _
          c.loop-left.run c.in-Some.width _ some c.in-Some.ensures.sure c.in-Some.ensures.other wide bytes
          (omega (arith, c.from.ensures)) (omega (arith, c.if-wider-bytes.false, many))
          (c.loop-left.invariant.passes limit wide);
      within = omega (arith, c.if-wider-bytes.false, many);
      fewer = fewer_left _ _ some c.loop-left.invariant.fewer;
    }
