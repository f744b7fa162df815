use Rattle.std.proofs.Common.{◌≡◌, ◌++◌, string_bytes, length}
use denote.Text.{Utf8}
use denote.Shadow.{shadow}
use Rattle.addr2line_demangle.specs.LegacyElements.{element_text}
use Rattle.addr2line_demangle.proofs.ElementParts.{rest_text}
use Rattle.addr2line_demangle.proofs.elements.push_element.Given as goal

abbrev pub invariant-loop-plain : goal.invariant-loop-plain
invariant-loop-plain l =
    shadow (Utf8 l.rest)
    × (string_bytes l.text ++ rest_text l.rest
    ≡ string_bytes l.initial.text ++ element_text l.element)

abbrev pub decreases-loop-plain : goal.decreases-loop-plain
decreases-loop-plain l = length l.rest
