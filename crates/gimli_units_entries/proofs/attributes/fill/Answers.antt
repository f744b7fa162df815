use Rattle.std.proofs.Common.{arith, length, ◌<◌, ◌≤◌}
use Rattle.gimli_core_base.proofs.RefusedCalls.{returns_refused}
use Rattle.gimli_units_forms.proofs.PlaceLemmas.{IsAfter-IsAfter}
use Rattle.gimli_units_forms.proofs.FormSizes.{made-after}
use Rattle.gimli_units_entries.proofs.AttributeListLemmas.{attributes_all}
use Rattle.gimli_units_entries.proofs.AttributePushLemmas.{attributes_push, attributes_push_fault}
use Rattle.gimli_units_entries.proofs.attributes.fill.Goals as goal

pub returns-in_err-push_attribute : goal.returns-in_err-push_attribute
returns-in_err-push_attribute g c =
    let in_range : c.loop-specification.specification-index < length c.args.specifications.now = omega arith in
    returns_refused _ c.from_residual.result _ _ c.from_residual.ensures.1
    (λ ne. attributes_push_fault _ _ _ _ _ _ _ _ _ in_range (c.in_err-push_attribute.ensures.value ne)
    c.loop-specification.invariant.read)

pub loop-specification-preserved : goal.loop-specification-preserved
loop-specification-preserved g c =
    let in_range : c.loop-specification.specification-index < length c.args.specifications.now = omega arith in
    let pushed = c.in_ok-push_attribute.ensures.value in
    record {
      in_reader = IsAfter-IsAfter _ _ _ c.loop-specification.invariant.in_reader (made-after _ _ _ _ _ _ _ pushed);
      read = attributes_push _ _ _ _ _ _ _ _ _ _ in_range pushed c.loop-specification.invariant.read;
    }

pub returns : goal.returns
returns g c =
    let at_end : length c.args.specifications.now ≤ c.loop-specification.specification-index = omega arith in
    attributes_all _ _ _ _ _ _ _ at_end c.loop-specification.invariant.read
