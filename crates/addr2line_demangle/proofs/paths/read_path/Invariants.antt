use Rattle.std.proofs.Common.{◌≡◌, IsAscii, map, length}
use denote.Text.{Utf8}
use denote.Shadow.{shadow}
use Rattle.addr2line_demangle.specs.LegacyNames.{path_of}
use Rattle.addr2line_demangle.proofs.PathSteps.{path_after}
use Rattle.addr2line_demangle.proofs.paths.read_path.Given as goal

abbrev pub invariant-loop-element : goal.invariant-loop-element
invariant-loop-element l =
    shadow (Utf8 l.rest) × IsAscii l.rest
    × (path_after (map (λ e. e.now) l.elements.items) (path_of l.rest) ≡ path_of l.text)

abbrev pub decreases-loop-element : goal.decreases-loop-element
decreases-loop-element l = length l.rest
