use Rattle.std.proofs.Common.{sym, ap, ◌∙◌}
use Rattle.gimli_units_entries.proofs.RefusedCalls.{returns_refused}
use Rattle.gimli_units_entries.specs.EntryViews.{entry_of, raw_attributes}
use Rattle.addr2line_names.specs.UnitFacts.{UnitInFile}
use Rattle.addr2line_functions.proofs.FunctionRowSteps.{name_refused, calls_refused, calls_read}
use Rattle.addr2line_functions.specs.CountedFunctions.{CountedCalls}
use Rattle.addr2line_functions.proofs.MadeValues.{returns_seen, ok_seen}
use Rattle.addr2line_functions.proofs.calls.function_calls.Goals as goal

pub returns-in_err-name-clause-function : goal.returns-in_err-name-clause-function
returns-in_err-name-clause-function g c =
    let r = entry_of g.R.Reader.view g.R.Offset.ReaderOffset.count c.args.entry.now in
    let attributes = raw_attributes g.R.Reader.view g.R.Offset.ReaderOffset.count c.attrs.result.now in
    let limit = ap (λ (u : UnitInFile). u.file.offset_limit) (sym c.unit.view_is) ∙ c.unit.invariant in
    returns_refused _ _ _ _ c.from_residual.ensures.1
    (λ m. name_refused g.R.Offset.ReaderOffset.limit c.args.unit.now limit
    (g.N.Names.naming c.args.names.now) r c.args.entries attributes c.in_err-name.field-0.0
    c.attrs.ensures (c.in_err-name.ensures m))

pub returns-in_err-calls-clause-function : goal.returns-in_err-calls-clause-function
returns-in_err-calls-clause-function g c =
    let r = entry_of g.R.Reader.view g.R.Offset.ReaderOffset.count c.args.entry.now in
    let attributes = raw_attributes g.R.Reader.view g.R.Offset.ReaderOffset.count c.attrs.result.now in
    let limit = ap (λ (u : UnitInFile). u.file.offset_limit) (sym c.unit.view_is) ∙ c.unit.invariant in
    returns_refused _ _ _ _ c.from_residual-in_err-calls.ensures.1
    (λ m. calls_refused g.R.Offset.ReaderOffset.limit c.args.unit.now limit
    (g.N.Names.naming c.args.names.now) r c.args.entries attributes _ c.in_err-calls.field-0.0
    c.attrs.ensures c.in_ok-name.ensures (c.in_err-calls.ensures m))

pub returns-clause-function : goal.returns-clause-function
returns-clause-function g c =
    let r = entry_of g.R.Reader.view g.R.Offset.ReaderOffset.count c.args.entry.now in
    let attributes = raw_attributes g.R.Reader.view g.R.Offset.ReaderOffset.count c.attrs.result.now in
    let limit = ap (λ (u : UnitInFile). u.file.offset_limit) (sym c.unit.view_is) ∙ c.unit.invariant in
    returns_seen (λ (f : CountedCalls). f.function) _ _ _ c.new.ensures
    (calls_read g.R.Offset.ReaderOffset.limit c.args.unit.now limit
    (g.N.Names.naming c.args.names.now) r c.args.entries attributes _ c.in_ok-calls.calls
    c.attrs.ensures c.in_ok-name.ensures c.in_ok-calls.ensures)

pub returns-clause-counter : goal.returns-clause-counter
returns-clause-counter g c = ok_seen (λ (f : CountedCalls). f.counter) _ _ c.new.ensures
