use Rattle.std.proofs.Common.{◌<◌, ◌≤◌, ◌^◌, length, arith}
use Rattle.gimli_core_base.proofs.RefusedCalls.{returns_refused}
use Rattle.gimli_units_forms.specs.AbbreviationViews.{attribute_view}
use Rattle.gimli_units_forms.specs.AttributeValues.{raw_attribute_of}
use Rattle.gimli_units_forms.proofs.FormSizes.{made-after}
use Rattle.gimli_units_forms.proofs.PlaceLemmas.{IsAfter-IsAfter}
use Rattle.gimli_units_entries.proofs.NamedAttributeLemmas.{prepend-first, named-more, named-stop, named-end}
use Rattle.gimli_units_entries.proofs.named.fill_named.Goals as goal

pub loop-left-init : goal.loop-left-init
loop-left-init g c =
    let limit = g.R.Offset.ReaderOffset.limit in
    let wide : 2 ^ 32 ≤ limit = g.met.R.Offset.ReaderOffset.holds_32 in
    record {
      in_reader = IsAfter-IsAfter _ _ _ c.requires c.skip_others-left.ensures.leads;
      read = prepend-first (raw_attribute_of g.R.Reader.view g.R.Offset.ReaderOffset.count) _ _ _ c.clear.ensures.items
          (c.skip_others-left.ensures.same limit wide);
    }

pub returns-in_err-push_named : goal.returns-in_err-push_named
returns-in_err-push_named g c =
    let some : 0 < length c.loop-left.left.now = omega (arith, c.in-len1-up.len_at_least) in
    returns_refused _ c.from_residual.result _ _ c.from_residual.ensures.1
    (λ ne. named-stop attribute_view g.R.Offset.ReaderOffset.limit c.args.names.now c.args.encoding
    c.loop-left.left.now _ _ _ _ _ some (c.in_err-push_named.ensures ne) c.loop-left.invariant.read)

pub loop-left-preserved : goal.loop-left-preserved
loop-left-preserved g c =
    let limit = g.R.Offset.ReaderOffset.limit in
    let wide : 2 ^ 32 ≤ limit = g.met.R.Offset.ReaderOffset.holds_32 in
    let some : 0 < length c.loop-left.left.now = omega (arith, c.in-len1-up.len_at_least) in
    record {
      in_reader = IsAfter-IsAfter _ _ _
          (IsAfter-IsAfter _ _ _ c.loop-left.invariant.in_reader (made-after _ _ _ _ _ _ _ c.in_ok-push_named.ensures))
          c.skip_others-left-in-len1-up.ensures.leads;
      read = named-more attribute_view limit c.args.names.now c.args.encoding c.loop-left.left.now _ _ _ _ _ _ _ _ some
          c.in_ok-push_named.ensures (c.skip_others-left-in-len1-up.ensures.same limit wide)
          c.loop-left.invariant.read;
    }

pub returns : goal.returns
returns g c =
    named-end attribute_view g.R.Offset.ReaderOffset.limit c.args.names.now c.args.encoding c.loop-left.left.now _ _ _
    c.in_default.len_below c.loop-left.invariant.read
