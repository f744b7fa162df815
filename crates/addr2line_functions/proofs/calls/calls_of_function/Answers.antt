use Rattle.std.proofs.Common.{sym, subst, Result}
use Rattle.gimli_units_entries.specs.Error.{Error}
use Rattle.gimli_units_entries.specs.Calls.{ReturnsAsOrNoMemory}
use Rattle.gimli_units_entries.proofs.RefusedCalls.{returns_refused}
use Rattle.addr2line_ranges.specs.InlinedCalls.{FunctionCalls}
use Rattle.addr2line_functions.specs.CountedFunctions.{CountedCalls}
use Rattle.addr2line_functions.proofs.FunctionRowSteps.{entry_refused, entry_null, entry_is_there}
use Rattle.addr2line_functions.proofs.calls.calls_of_function.Goals as goal

pub returns-in_err-read_entry-clause-function : goal.returns-in_err-read_entry-clause-function
returns-in_err-read_entry-clause-function g c =
    returns_refused _ _ _ _ c.from_residual-in_err-read_entry.ensures.1
    (λ m. entry_refused g.R.Offset.ReaderOffset.limit c.args.unit.now c.in_ok-entries.ensures.limit
    (g.N.Names.naming c.args.names.now) (g.R.Offset.ReaderOffset.count c.args.offset.0) c.in_ok-entries.entries
    c.in_err-read_entry.field-0.0 c.in_ok-entries.ensures.value (c.in_err-read_entry.ensures.value.0 m))

pub returns-then-not-branch-clause-function : goal.returns-then-not-branch-clause-function
returns-then-not-branch-clause-function g c = λ m.
    entry_null g.R.Offset.ReaderOffset.limit c.args.unit.now c.in_ok-entries.ensures.limit
    (g.N.Names.naming c.args.names.now)
    (g.R.Offset.ReaderOffset.count c.args.offset.0) c.into_u64.result c.in_ok-entries.entries
    c.read_entry.new.self c.in_ok-read_entry.field-0 _ c.in_ok-entries.ensures.value c.in_ok-read_entry.ensures.value
    c.if-not-branch.true c.into_u64.ensures.value

pub returns-clause-function : goal.returns-clause-function
returns-clause-function g c =
    let P : Result FunctionCalls Error → Type 0 =
    λ r. ReturnsAsOrNoMemory (λ (f : CountedCalls). f.function) c.function_calls.result r in
    subst P (sym
    (entry_is_there g.R.Offset.ReaderOffset.limit c.args.unit.now c.in_ok-entries.ensures.limit
    (g.N.Names.naming c.args.names.now) (g.R.Offset.ReaderOffset.count c.args.offset.0) c.in_ok-entries.entries
    c.read_entry.new.self c.in_ok-read_entry.field-0 _ c.in_ok-entries.ensures.value c.in_ok-read_entry.ensures.value
    c.if-not-branch.false)) c.function_calls.ensures.function
