use Rattle.std.proofs.Common.{ℕ, ◌<◌, ◌∷◌, [], ◌++◌, List, length, Some, None, string_bytes, encode_utf8, ap, sym, ◌∙◌, rules, arith, lit<}
use Rattle.std.proofs.lemmas.Str.Pattern.{split_once_first}
use Rattle.addr2line_demangle.specs.LegacyElements.{dots_as_colons, Replacement}
use Rattle.addr2line_demangle.proofs.ElementParts.{rest_text, rest_plain, rest_split, after_shorter, shorter_some, push_two, push_last, then_on_ok}
use Rattle.addr2line_demangle.proofs.elements.push_element.Goals as goal

pub loop-plain-smaller : goal.loop-plain-smaller
loop-plain-smaller c =
    let cut =
    split_once_first 36 c.loop-plain.rest.now
    (Some (c.in-Some.plain, c.in-Some.tail)) c.in-Some.ensures.cases (lit< tt) in
    let r : Replacement =
    record {
      character =
          c.in-Some-first_replacement.character;
      rest = c.in-Some-first_replacement.after.now;
    } in
    let less = shorter_some c.in-Some.tail.now r c.in-Some-first_replacement.ensures in
    let more = after_shorter c.loop-plain.rest.now cut.0 in
    let same = ap length cut.2 in
    let smaller : length c.in-Some-first_replacement.after.now < length c.loop-plain.rest.now =
    omega (arith, less, more, same) in
    smaller

pub loop-plain-preserved : goal.loop-plain-preserved
loop-plain-preserved c =
    let whole =
    rest_split c.loop-plain.rest.now c.in-Some.plain c.in-Some.tail _ c.in-Some.ensures.cases
    c.in-Some-first_replacement.ensures in (
      search rules,
      push_two (string_bytes c.loop-plain.text) (string_bytes c.push_plain.new.text)
          (string_bytes c.push.new.self) (dots_as_colons c.in-Some.plain.now)
          (encode_utf8 c.in-Some-first_replacement.character)
          (rest_text c.in-Some-first_replacement.after.now) (rest_text c.loop-plain.rest.now)
          c.in_ok-push_plain.ensures c.in_ok-push-in-Some-first_replacement.ensures.bytes whole
          ∙ c.loop-plain.invariant.1,
    )

pub returns-in-None : goal.returns-in-None
returns-in-None c =
    let whole =
    rest_split c.loop-plain.rest.now c.in-Some.plain c.in-Some.tail _ c.in-Some.ensures.cases c.in-None.ensures in
    let sign =
    c.in_ok-push-in-None.ensures.bytes
    ∙ ap (λ (t : List ℕ). string_bytes c.push_plain.new.text ++ t)
    (c.in_ok-push-in-None.ensures.ascii (lit< tt)) in
    push_last c.push_str.result (string_bytes c.push_str.new.self)
    (string_bytes c.push-in-None.new.self) c.in-Some.tail.now _ c.push_str.ensures.bytes
    (push_two (string_bytes c.loop-plain.text) (string_bytes c.push_plain.new.text)
    (string_bytes c.push-in-None.new.self) (dots_as_colons c.in-Some.plain.now)
    (36 ∷ []) c.in-Some.tail.now
    (rest_text c.loop-plain.rest.now) c.in_ok-push_plain.ensures sign whole
    ∙ c.loop-plain.invariant.1)

pub returns : goal.returns
returns c =
    let plain =
    split_once_first 36 c.loop-plain.rest.now None c.in_default.ensures.cases (lit< tt) in
    then_on_ok c.push_plain-2.result
    (string_bytes c.push_plain-2.new.text) _ _ c.push_plain-2.ensures
    (ap (λ (t : List ℕ). string_bytes c.loop-plain.text ++ t)
    (sym (rest_plain c.loop-plain.rest.now plain)) ∙ c.loop-plain.invariant.1)
