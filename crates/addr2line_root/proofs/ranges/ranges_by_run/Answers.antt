use Rattle.std.proofs.Common.{◌≡◌, ◌∙◌, ap}
use Rattle.addr2line_ranges.specs.LineIndexes.{counted_lines}
use Rattle.addr2line_ranges.specs.UnitFacts.{UnitInFile}
use Rattle.addr2line_ranges.specs.UnitLines.{lines_of_unit}
use Rattle.addr2line_ranges.specs.UnitRanges.{ranges_of_lines}
use Rattle.addr2line_root.specs.CountedRuns.{CountedUnit}
use Rattle.addr2line_root.specs.LastPrograms.{ProgramRun, LastProgram, program_key, unit_texts}
use Rattle.addr2line_root.proofs.SharedLines.{program_kept}
use Rattle.addr2line_root.proofs.ranges.ranges_by_run.Goals as goal

pub returns-clause-last : goal.returns-clause-last
returns-clause-last g c =
    let u = c.args.unit.now.unit in
    let w = c.unit_ref.result in
    let same : w ≡ u =
    c.unit_ref.ensures ∙ ap (λ (x : CountedUnit). x.unit) c.in_ok-indexed.ensures.counted in
    let counter = c.args.probes.now.name in
    let lines = c.in_ok-indexed.indexed.lines in
    let ranges = c.in_ok-ranges.ranges.value.items in
    let were_run = c.in_ok-indexed.ensures.lines in
    let were_found = c.in_ok-indexed.ensures.ranges in
    let were_shared = c.in_ok-ranges.ensures.ok in
    let was_made = c.in_ok-new.ensures in
    let lines_are : lines ≡ counted_lines counter (lines_of_unit u) = cc in
    let ranges_are : ranges ≡ ranges_of_lines (lines_of_unit u) = cc in
    let run_of : UnitInFile → ProgramRun =
    λ x. record { key = program_key x.facts; texts = unit_texts x.facts; ranges = ranges; lines = lines } in
    let made : c.in_ok-new.field-0 ≡ run_of w = cc in
    program_kept u counter c.args.last.now c.keep.new.self c.in_ok-new.field-0 ranges lines c.keep.ensures
    c.requires.counter (made ∙ ap run_of same) ranges_are lines_are

pub returns-clause-counters : goal.returns-clause-counters
returns-clause-counters g c = ap (λ (l : LastProgram). l.counters) c.keep.ensures
