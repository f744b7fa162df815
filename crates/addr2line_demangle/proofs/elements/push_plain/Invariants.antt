use Rattle.std.proofs.Common.{◌≡◌, ◌++◌, string_bytes, length}
use denote.Text.{Utf8}
use denote.Shadow.{shadow}
use Rattle.addr2line_demangle.specs.LegacyElements.{dots_as_colons}
use Rattle.addr2line_demangle.proofs.elements.push_plain.Given as goal

abbrev pub invariant-loop-before : goal.invariant-loop-before
invariant-loop-before l =
    shadow (Utf8 l.rest)
    × (string_bytes l.text ++ dots_as_colons l.rest
    ≡ string_bytes l.initial.text ++ dots_as_colons l.plain)

abbrev pub decreases-loop-before : goal.decreases-loop-before
decreases-loop-before l = length l.rest
