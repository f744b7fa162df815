-- The parts up to where the next one can begin.
use Rattle.std.proofs.Common.{◌+◌, ◌-◌, ◌≤◌, length}
use Rattle.addr2line_elf.specs.NameParts.{AreNamePartsTo}
use Rattle.addr2line_elf.proofs.names.parts_of.Given as goal

abbrev pub invariant-loop-begin : goal.invariant-loop-begin
invariant-loop-begin l =
    record {
      within : l.begin ≤ length l.texts + 1;
      parts : AreNamePartsTo l.begin l.texts l.parts.items;
    }

abbrev pub decreases-loop-begin : goal.decreases-loop-begin
decreases-loop-begin l = length l.texts + 1 - l.begin
