use Rattle.std.proofs.Common.{◌∙◌, ap, subst, sym, Ok}
use Rattle.std.proofs.lemmas.Result.{err_from_is_err_and}
use Rattle.addr2line_functions.specs.Results.{and_then}
use Rattle.addr2line_functions.specs.EntryRows.{Row}
use Rattle.addr2line_functions.specs.EntryViews.{entry_of}
use Rattle.addr2line_functions.specs.UnitFacts.{UnitInFile}
use Rattle.addr2line_root.specs.LastRanges.{LastRanges, AreLastFor, maker_of, counter_of}
use Rattle.addr2line_root.specs.ProbedLists.{ProbeCount}
use Rattle.addr2line_unit.specs.ResolvedUnits.{without_answer}
use Rattle.addr2line_unit.proofs.KeptParses.{runs_from_none}
use Rattle.addr2line_unit.proofs.NewUnits.{unit_by_root}
use Rattle.addr2line_unit.proofs.unit.ResUnit.read.Goals as goal

pub returns-in_err-root-clause-unit : goal.returns-in_err-root-clause-unit
returns-in_err-root-clause-unit g c =
    let u : UnitInFile = c.args.main.counted.unit in
    let r : Row = entry_of g.R.Reader.view g.R.Offset.ReaderOffset.count c.args.entry.now in
    let p = err_from_is_err_and c.from_residual.result c.from_residual.ensures.1 in
    rw (p.1, p.2) (λ m.
    ap (λ x. and_then x (λ unit. Ok (without_answer u.file unit)))
    (unit_by_root u r c.requires.root ∙ c.in_err-root.ensures.unit m))

-- one more counter leaves what was read last
pub read-requires-clause-last : goal.read-requires-clause-last
read-requires-clause-last g c =
    subst (λ (l : LastRanges). AreLastFor c.args.main.counted.unit l) (sym c.counter-probes.ensures.made)
    c.requires.last

pub read-requires-clause-counter : goal.read-requires-clause-counter
read-requires-clause-counter g c =
    ap (λ (p : ProbeCount). p.name) c.counter-probes.ensures.counter
    ∙ sym (ap (λ (l : LastRanges). counter_of l) c.counter-probes.ensures.made)

pub of_root-requires : goal.of_root-requires
of_root-requires g c =
    runs_from_none c.counter-probes.result.name c.in_ok-root.root.ranges c.in_ok-root.root.lines c.args.main.counted
    c.read.new.unit.counted c.requires.runs c.in_ok-root.ensures.lines

pub returns-in_err-root-clause-counters : goal.returns-in_err-root-clause-counters
returns-in_err-root-clause-counters g c =
    c.in_err-root.ensures.counters ∙ ap (λ (l : LastRanges). maker_of l) c.counter-probes.ensures.made

pub returns-clause-counters : goal.returns-clause-counters
returns-clause-counters g c =
    c.in_ok-root.ensures.counters ∙ ap (λ (l : LastRanges). maker_of l) c.counter-probes.ensures.made
