use Rattle.std.proofs.Common.{◌≡◌, ◌∷◌, ◌++◌, string_bytes, flat_map, take}
use Rattle.addr2line_demangle.specs.LegacyElements.{element_text}
use Rattle.addr2line_demangle.proofs.names.push_elements.Given as goal

abbrev pub invariant-loop-element : goal.invariant-loop-element
invariant-loop-element l =
    string_bytes l.text
    ≡ string_bytes l.initial.text
    ++ flat_map (λ e. 58 ∷ 58 ∷ element_text e.now) (take l.element-index l.others)
