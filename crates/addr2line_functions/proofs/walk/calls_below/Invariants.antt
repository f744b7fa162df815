-- The calls so far with those to come are all; the nesting is that of what the next entry may be in.
use Rattle.std.proofs.Common.{◌≡◌, List}
use Rattle.gimli_units_entries.specs.View.{bytes_left}
use Rattle.gimli_units_entries.specs.EntryRows.{Row}
use Rattle.addr2line_ranges.specs.InlinedCalls.{calls_among, entries_of}
use Rattle.addr2line_functions.specs.CallNesting.{calls_from}
use Rattle.addr2line_functions.proofs.NestingLemmas.{Matches}
use Rattle.addr2line_functions.proofs.CallEntrySteps.{calls_then}
use Rattle.addr2line_functions.proofs.OtherCallSteps.{AreBelow}
use Rattle.addr2line_functions.proofs.walk.calls_below.Given as goal

abbrev pub invariant-loop-alloc : goal.invariant-loop-alloc
invariant-loop-alloc g l =
    let limit = g.R.Offset.ReaderOffset.limit in
    let naming = g.N.Names.naming l.names in
    (before : List Row) × Matches before l.entries.depth l.nesting × AreBelow before
    × (calls_then l.calls
    (calls_from limit l.unit naming (record { walk = l.entries; before = before }))
    ≡ calls_among l.unit naming (entries_of limit l.fn.entries))

abbrev pub decreases-loop-alloc : goal.decreases-loop-alloc
decreases-loop-alloc g l = bytes_left l.entries.rest
