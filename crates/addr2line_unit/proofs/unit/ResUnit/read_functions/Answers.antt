use Rattle.std.proofs.Common.{◌≡◌, List, None, Result, sym, ap, ◌∙◌, subst}
use Rattle.addr2line_functions.specs.Error.{Error}
use Rattle.addr2line_functions.specs.Calls.{ReturnsAsOrNoMemory}
use Rattle.addr2line_functions.specs.FirstAnswers.{load_of}
use Rattle.addr2line_functions.specs.Functions.{Function}
use Rattle.addr2line_functions.specs.CountedFunctions.{CountedFunctions}
use Rattle.addr2line_root.specs.CountedRuns.{CountedUnit}
use Rattle.addr2line_root.specs.MainUnits.{MainUnit}
use Rattle.addr2line_unit.specs.ResolvedUnits.{ResolvedUnit, undecided, pending_load, decided, functions_under}
use Rattle.addr2line_unit.proofs.FunctionParses.{keeps_read_after}
use Rattle.addr2line_unit.proofs.KeptParses.{keeps_functions, keeps_whole}
use Rattle.addr2line_unit.proofs.ResolvedViews.{same_seen, with_functions_after}
use Rattle.addr2line_unit.proofs.unit.ResUnit.read_functions.Goals as goal

pub invariant_of-self : goal.invariant_of-self
invariant_of-self g c =
    let i = c.self.inside in
    keeps_whole i.main c.make_whole.new.self i.load i.first i.lines i.functions i.probes.name
    c.in_err-make_whole.ensures.unit
    (λ whole. ap (λ (u : MainUnit). u.is_whole) c.in_err-make_whole.ensures.err ∙ whole) c.self.invariant

pub invariant_of-self-2 : goal.invariant_of-self-2
invariant_of-self-2 g c =
    let i = c.self.inside in
    keeps_whole i.main c.make_whole.new.self i.load i.first i.lines i.functions i.probes.name
    c.in_ok-make_whole.ensures.unit (λ whole. c.in_ok-make_whole.ensures.ok) c.self.invariant

pub invariant_of-self-3 : goal.invariant_of-self-3
invariant_of-self-3 g c =
    let i = c.self.inside in
    let w = c.make_whole.new.self in
    let read = c.parse_functions-functions.result in
    let whole = c.in_ok-make_whole.ensures.ok in
    let same : w.counted ≡ i.main.counted = c.in_ok-make_whole.ensures.unit in
    let load_is : i.load ≡ load_of w.counted.unit =
    c.self.invariant.load_is ∙ sym (ap (λ (u : CountedUnit). load_of u.unit) same) in
    let is_decided : undecided i.load i.first ≡ None =
    ap (λ l. undecided l i.first) c.self.invariant.load_is
    ∙ ap (λ (u : ResolvedUnit). pending_load u.value) c.self.view_is ∙ c.requires in
    let P : Result (List Function) Error → Type 0 = λ m.
    ReturnsAsOrNoMemory (λ (f : CountedFunctions). f.functions) read m in
    let before =
    keeps_whole i.main w i.load i.first i.lines i.functions i.probes.name same (λ was. whole) c.self.invariant in
    keeps_functions w i.load i.first i.lines i.functions c.keep.new.self i.probes.name before
    (keeps_read_after w.counted.unit i.load i.first i.functions c.keep.new.self i.probes.name read c.keep.result
    c.keep.ensures.ok c.keep.ensures.answer c.keep.ensures.err is_decided
    (subst P (sym (ap (λ l. functions_under w.counted.unit (decided l i.first)) load_is))
    c.parse_functions-functions.ensures.functions)
    c.parse_functions-functions.ensures.counter before.functions_are)
    (λ kept. whole)

pub returns-clause-ok : goal.returns-clause-ok
returns-clause-ok g c =
    let i = c.self.inside in
    with_functions_after _ _ _ i.functions c.keep.new.self _ _ c.args.self.now
    c.parse_functions-functions.result c.keep.result c.keep.ensures.ok c.keep.ensures.answer
    c.parse_functions-functions.ensures.functions
    (sym c.is_read.ensures ∙ c.if-is_read.false)
    (same_seen i.main.counted c.make_whole.new.self.counted _ _ _ _ i.functions _ _ _ c.in_ok-make_whole.ensures.unit
    c.self.view_is)
