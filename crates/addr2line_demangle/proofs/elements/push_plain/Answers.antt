use Rattle.std.proofs.Common.{[], ◌∷◌, ◌++◌, List, ℕ, string_bytes, ap, ◌∙◌, rules}
use Rattle.addr2line_demangle.specs.LegacyElements.{dots_as_colons}
use Rattle.addr2line_demangle.proofs.DotPairs.{dots_whole, dots_cut}
use Rattle.addr2line_demangle.proofs.ElementParts.{push_two, push_last}
use Rattle.addr2line_demangle.proofs.elements.push_plain.Goals as goal

pub loop-before-preserved : goal.loop-before-preserved
loop-before-preserved c = (
  search rules,
  push_two (string_bytes c.loop-before.text) (string_bytes c.push_str.new.self)
      (string_bytes c.push_str-in-Some.new.self) c.in-Some.before.now
      (58 ∷ 58 ∷ []) (dots_as_colons c.in-Some.after.now)
      (dots_as_colons c.loop-before.rest.now) c.in_ok-push_str.ensures.bytes
      c.in_ok-push_str-2.ensures.bytes
      (dots_cut c.loop-before.rest.now c.in-Some.before.now c.in-Some.after.now
      c.in-Some.ensures.cases)
      ∙ c.loop-before.invariant.1,
)

pub returns : goal.returns
returns c =
    push_last c.push_str-2.result (string_bytes c.push_str-2.new.self)
    (string_bytes c.loop-before.text) c.loop-before.rest.now _ c.push_str-2.ensures.bytes
    (ap (λ (t : List ℕ). string_bytes c.loop-before.text ++ t)
    (dots_whole c.loop-before.rest.now c.in_default.ensures.cases) ∙ c.loop-before.invariant.1)
