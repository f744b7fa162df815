use Rattle.std.proofs.Common.{◌≡◌, ◌<◌, ◌-◌, Option, Result, option_map, subst, sym, ap, arith}
use Rattle.gimli_dwarf.specs.Error.{Error}
use Rattle.gimli_dwarf.specs.Calls.{ReturnsAsOrNoMemory}
use Rattle.gimli_dwarf.specs.View.{View}
use Rattle.gimli_dwarf.proofs.RefusedCalls.{returns_refused}
use Rattle.gimli_dwarf.specs.AttributeValues.{raw_value_of}
use Rattle.addr2line_names.specs.EntryReferences.{HoldingUnit, ReferredEntry}
use Rattle.addr2line_names.specs.FunctionNames.{name_by_reference}
use Rattle.addr2line_names.specs.NamingView.{naming_view}
use Rattle.addr2line_names.proofs.ReferenceChains.{by_no_reference, by_refused_reference, by_reference_to_nothing, by_reference_to_fault, by_reference_to_naming}
use Rattle.addr2line_names.proofs.names.KnownUnits.+name_by_reference.Goals as goal

pub returns-then-left-eq0 : goal.returns-then-left-eq0
returns-then-left-eq0 g t c = by_no_reference _ _ _ _ c.if-left-eq0.true

pub returns-in_err-entry : goal.returns-in_err-entry
returns-in_err-entry g t c =
    let some : 0 < c.args.left = omega arith in
    returns_refused _ c.from_residual.result _ _ c.from_residual.ensures.1
    (λ ne. by_refused_reference _ _ _ _ _ some (c.in_err-entry.ensures ne))

pub returns-in_default : goal.returns-in_default
returns-in_default g t c =
    let some : 0 < c.args.left = omega arith in
    by_reference_to_nothing _ _ _ _ _ some c.in_ok-entry.ensures (ap (option_map (λ e. e)) c.in_default.is)

pub returns-in_err-name : goal.returns-in_err-name
returns-in_err-name g t c =
    let some : 0 < c.args.left = omega arith in
    returns_refused _ c.from_residual-in_err-name.result _ _ c.from_residual-in_err-name.ensures.1
    (λ ne. by_reference_to_fault _ _ _ _ _ _ _ some c.in_ok-entry.ensures (ap (option_map (λ e. e)) c.in-Some.is)
    (c.in_err-name.ensures ne))

pub returns-in-ByName : goal.returns-in-ByName
returns-in-ByName g t c =
    let some : 0 < c.args.left = omega arith in
    by_reference_to_naming _ _ _ _ _ _ _ _ some c.in_ok-entry.ensures
    (ap (option_map (λ e. e)) c.in-Some.is) c.in_ok-name.ensures
    (ap (λ n. naming_view g.R.Reader.view g.R.Offset.ReaderOffset.count n) c.in-ByName.is)

pub returns-in-ByReference : goal.returns-in-ByReference
returns-in-ByReference g t c =
    let some : 0 < c.args.left = omega arith in
    let P : Result (Option View) Error → Type 0 =
    λ r. ReturnsAsOrNoMemory (option_map g.R.Reader.view) c.name_by_reference.result r in
    let Q : HoldingUnit → Type 0 =
    λ h. P (name_by_reference c.args.self.now (c.args.left - 1) h
    (raw_value_of g.R.Reader.view g.R.Offset.ReaderOffset.count c.in-ByReference.next)) in
    let there : c.entry.inside.holder ≡ c.in-Some.entry.holder = ap (λ (e : ReferredEntry). e.holder) c.entry.view_is in
    subst P (sym
    (by_reference_to_naming _ _ _ _ _ _ _ _ some c.in_ok-entry.ensures
    (ap (option_map (λ e. e)) c.in-Some.is) c.in_ok-name.ensures
    (ap (λ n. naming_view g.R.Reader.view g.R.Offset.ReaderOffset.count n) c.in-ByReference.is)))
    (subst Q there c.name_by_reference.ensures)

pub returns-in-Nameless : goal.returns-in-Nameless
returns-in-Nameless g t c =
    let some : 0 < c.args.left = omega arith in
    by_reference_to_naming _ _ _ _ _ _ _ _ some c.in_ok-entry.ensures
    (ap (option_map (λ e. e)) c.in-Some.is) c.in_ok-name.ensures
    (ap (λ n. naming_view g.R.Reader.view g.R.Offset.ReaderOffset.count n) c.in-Nameless.is)
