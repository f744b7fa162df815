use Rattle.std.proofs.Common.{◌∙◌, ap, sym, subst, w64, rules, List, Option, Result, Ok}
use Rattle.std.proofs.lemmas.Int.{to_z-of_z}
use Rattle.std.proofs.lemmas.Result.{err_from_is_err_and}
use Rattle.gimli_units_entries.specs.Error.{Error}
use Rattle.gimli_units_entries.specs.Calls.{ReturnsAsOrNoMemory}
use Rattle.gimli_units_entries.specs.Attribute.{Attribute}
use Rattle.gimli_units_entries.specs.EntryWalks.{Walk}
use Rattle.gimli_units_entries.specs.EntryRows.{Row}
use Rattle.addr2line_ranges.specs.InlinedCalls.{Call}
use Rattle.addr2line_functions.specs.EntryRowViews.{row_view, is_chosen}
use Rattle.addr2line_functions.specs.CallNesting.{CallWalk, leave, enter, call_if, next_call}
use Rattle.addr2line_functions.proofs.CallEntrySteps.{call_of_entry, entry_of_call, returns_with}
use Rattle.addr2line_functions.proofs.walk.next_call.Goals as goal

pub returns-in_err-row : goal.returns-in_err-row
returns-in_err-row g c =
    let p = err_from_is_err_and c.from_residual.result c.from_residual.ensures.1 in
    let o = c.args.nesting.now in
    rw (p.1, p.2)
    (λ m. call_of_entry g.R.Offset.ReaderOffset.limit c.args.unit.now
    (g.N.Names.naming c.args.names.now)
    c.args.entries.now o c.leave.new.self c.next_depth.result (is_chosen c.read_tag.result) _
    c.next_depth.ensures
    (c.leave.ensures ∙ ap (λ d. leave d o) (to_z-of_z w64 c.next_depth.result (search rules))) c.read_tag.ensures
    (c.in_err-row.ensures m))

pub returns : goal.returns
returns g c =
    let limit = g.R.Offset.ReaderOffset.limit in
    let u = c.args.unit.now in
    let naming = g.N.Names.naming c.args.names.now in
    let o = c.args.nesting.now in
    let w = c.args.entries.now in
    let t = c.next_row.new.entries in
    let r = row_view g.R.Reader.view g.R.Offset.ReaderOffset.count c.in_ok-row.row c.next_row.new.attributes.items in
    let now = c.leave.new.self in
    let there : CallWalk = record { walk = t; nesting = c.enter.new.self } in
    let tag = c.in_ok-row.row.tag.0 in
    let answer : Result (Row × Walk) Error = Ok (r, t) in
    let called : Result (Option Call) Error = call_if u naming r c.in_ok-depth.depth in
    let all : Result (Option Call × CallWalk) Error = next_call limit u naming (record { walk = w; nesting = o }) in
    let itself : Option Call → Option Call = λ x. x in
    let P = λ (xs : List (Attribute g.row.R.Denot g.row.R-Endian.Denot g.row.R-Offset.Denot)).
    ReturnsAsOrNoMemory itself c.call_if.result
    (call_if u naming
    (row_view g.R.Reader.view g.R.Offset.ReaderOffset.count c.in_ok-row.row xs) c.in_ok-depth.depth) in
    returns_with itself there c.call_if.result called all
    (call_of_entry limit u naming w o now c.next_depth.result (is_chosen c.read_tag.result) answer
    c.next_depth.ensures
    (c.leave.ensures ∙ ap (λ d. leave d o) (to_z-of_z w64 c.next_depth.result (search rules))) c.read_tag.ensures
    c.in_ok-row.ensures
    ∙ entry_of_call limit u naming r t now c.enter.new.self c.in_ok-depth.depth
    (ap (λ d. enter tag d now) (sym (to_z-of_z w64 c.in_ok-row.row.depth (search rules))) ∙ c.in_ok-depth.ensures))
    (subst P c.deref.ensures.value c.call_if.ensures)
