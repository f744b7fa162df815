use Rattle.std.proofs.Common.{◌≡◌, ◌-◌, ◌∷◌, ◌++◌, ℕ, List, length, take, drop, flat_map, string_bytes, Bor, ap, sym, ◌∙◌, arith, append_assoc, length-drop}
use Rattle.std.proofs.lemmas.List.{take_all}
use Rattle.addr2line_demangle.specs.LegacyElements.{element_text}
use Rattle.addr2line_demangle.proofs.ElementLists.{elements_text_parts}
use Rattle.addr2line_demangle.proofs.names.push_elements.Goals as goal

pub returns-after-loop-element : goal.returns-after-loop-element
returns-after-loop-element c =
    let elements = c.args.elements.now in
    let others = take (length elements - 1) (drop 1 elements) in
    let others_text : List (Bor (List ℕ)) → List ℕ =
    λ es. flat_map (λ (e : Bor (List ℕ)). 58 ∷ 58 ∷ element_text e.now) es in
    let l = length-drop 1 elements in
    let past : take c.loop-element.element-index others ≡ others =
    take_all c.loop-element.element-index others c.loop-element-test.false in
    let all : others ≡ drop 1 elements =
    take_all (length elements - 1) (drop 1 elements) (omega (arith, l)) in
    c.loop-element.invariant
    ∙ ap (λ (es : List (Bor (List ℕ))). string_bytes c.push_element.new.text ++ others_text es)
    (past ∙ all)
    ∙ ap (λ (t : List ℕ). t ++ others_text (drop 1 elements)) c.in_ok-push_element.ensures
    ∙ append_assoc (string_bytes c.args.text.now) _ (others_text (drop 1 elements))
    ∙ ap (λ (t : List ℕ). string_bytes c.args.text.now ++ t)
    (sym (elements_text_parts elements _ c.in-len1-up.len_at_least))
