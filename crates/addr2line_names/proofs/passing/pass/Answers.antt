use Rattle.std.proofs.Common.{◌<◌, length, sym, ap, ◌∙◌, arith}
use Rattle.gimli_dwarf.specs.AbbreviationViews.{attribute_view}
use Rattle.addr2line_names.specs.PassedAttributes.{is_naming}
use Rattle.addr2line_names.proofs.PassedSteps.{begins_with_name, begins_with_none, passes_on, passes_left-more, passes_left-fault}
use Rattle.addr2line_names.proofs.passing.pass.Goals as goal

pub loop-left-preserved : goal.loop-left-preserved
loop-left-preserved g c =
    let some : 0 < length c.loop-left.left.now = omega (arith, c.in-len1-up.len_at_least) in
    record {
      passes =
          passes_on _ _ _ _ _ _ _
          (passes_left-more _ _ _ attribute_view c.loop-left.left.now _ c.loop-left.entries _ _ some
          c.loop-left.invariant.passes c.in-Ok.ensures.value
          (ap is_naming (sym c.name.ensures) ∙ sym c.is_naming.ensures ∙ c.if-is_naming.false))
          c.skip-left-in-Ok.ensures.passes;
      fewer = omega (arith, c.in-len1-up.len_at_least, c.skip-left-in-Ok.ensures.fewer, c.loop-left.invariant.fewer);
    }

pub returns-in-Err-clause-passes : goal.returns-in-Err-clause-passes
returns-in-Err-clause-passes g c ne =
    let some : 0 < length c.loop-left.left.now = omega (arith, c.in-len1-up.len_at_least) in
    passes_left-fault _ _ _ attribute_view c.loop-left.left.now _ c.loop-left.entries _ some
    c.loop-left.invariant.passes (c.in-Err.ensures.value.0 ne)

pub returns-then-is_naming-clause-name : goal.returns-then-is_naming-clause-name
returns-then-is_naming-clause-name g c =
    begins_with_name attribute_view c.loop-left.left.now _ (omega (arith, c.in-len1-up.len_at_least))
    (ap is_naming (sym c.name.ensures) ∙ sym c.is_naming.ensures ∙ c.if-is_naming.true)

pub returns-clause-name : goal.returns-clause-name
returns-clause-name g c = begins_with_none attribute_view c.loop-left.left.now c.in_default.len_below
