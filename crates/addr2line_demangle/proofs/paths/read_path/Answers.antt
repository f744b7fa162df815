use Rattle.std.proofs.Common.{ℕ, [], ◌∷◌, List, Some, None, Ok, map, ap, sym, ◌∙◌, rules, lit<, Bor}
use Rattle.std.proofs.lemmas.List.{map-append}
use Rattle.std.proofs.lemmas.Str.Pattern.{strip_prefix_char}
use Rattle.addr2line_demangle.specs.LegacyNames.{Element, path_of}
use Rattle.addr2line_demangle.proofs.PathSteps.{ascii_some, path_after, path_after_one, path_after_all, no_path_without_end}
use Rattle.addr2line_demangle.proofs.paths.read_path.Goals as goal

pub loop-element-preserved : goal.loop-element-preserved
loop-element-preserved c =
    let e : Element = record { text = c.in-Some.element.now; rest = c.in-Some.tail.now } in
    let es : List (List ℕ) = map (λ (x : Bor (List ℕ)). x.now) c.loop-element.elements.items in (
      search rules,
      ascii_some c.loop-element.rest.now e c.in-Some.ensures c.loop-element.invariant.1,
      ap (λ (xs : List (Bor (List ℕ))).
          path_after (map (λ (x : Bor (List ℕ)). x.now) xs) (path_of c.in-Some.tail.now))
          c.in_ok-push.ensures.items
          ∙ ap (λ (xs : List (List ℕ)). path_after xs (path_of c.in-Some.tail.now))
          (map-append (λ (x : Bor (List ℕ)). x.now) c.loop-element.elements.items
          (c.in-Some.element ∷ []))
          ∙ sym (path_after_one es e c.loop-element.rest.now c.in-Some.ensures)
          ∙ c.loop-element.invariant.2,
    )

pub returns-in-Some-strip_prefix : goal.returns-in-Some-strip_prefix
returns-in-Some-strip_prefix c =
    let es : List (List ℕ) = map (λ (x : Bor (List ℕ)). x.now) c.loop-element.elements.items in
    let stripped =
    strip_prefix_char 69 c.loop-element.rest.now
    (Some c.in-Some-strip_prefix.suffix) c.in-Some-strip_prefix.ensures.cases (lit< tt) in
    ap Ok (sym c.loop-element.invariant.2
    ∙ path_after_all es c.loop-element.rest.now c.in-Some-strip_prefix.suffix.now
    c.in_default.ensures stripped)

pub returns : goal.returns
returns c =
    let es : List (List ℕ) = map (λ (x : Bor (List ℕ)). x.now) c.loop-element.elements.items in
    let others =
    strip_prefix_char 69 c.loop-element.rest.now None c.in-None.ensures.cases (lit< tt) in
    ap Ok (sym c.loop-element.invariant.2
    ∙ no_path_without_end es c.loop-element.rest.now c.in_default.ensures others)
