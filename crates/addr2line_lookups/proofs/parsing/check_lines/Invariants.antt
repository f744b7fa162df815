-- The lines of the units before a number can be read, and are kept. No others were read, and nothing else.
use Rattle.std.proofs.Common.{◌≡◌, ◌-◌, length, map}
use Rattle.addr2line_unit.specs.Contexts.{all_lines_or_refusal}
use Rattle.addr2line_unit.specs.ResolvedUnits.{plain_unit}
use Rattle.addr2line_lookups.proofs.AskedLines.{AsksUnits}
use Rattle.addr2line_lookups.proofs.KeptLines.{check_from}
use Rattle.addr2line_lookups.specs.LookupCosts.{ReadsLines}
use Rattle.addr2line_lookups.proofs.parsing.check_lines.Given as goal

abbrev pub invariant-loop-number : goal.invariant-loop-number
invariant-loop-number g l =
    let us = map plain_unit l.fn.units.items in
    ReadsLines l.fn.units.items l.units.items
    × (check_from l.number us ≡ all_lines_or_refusal us)
    × AsksUnits l.fn.units.items l.number l.units.items

abbrev pub decreases-loop-number : goal.decreases-loop-number
decreases-loop-number g l = length l.fn.units.items - l.number
