use Rattle.std.proofs.Common.{◌∙◌, ap, sym, arith}
use Rattle.std.proofs.lemmas.Result.{err_from_is_err_and}
use Rattle.gimli_units_entries.specs.View.{bytes_left}
use Rattle.addr2line_functions.specs.NextFunctions.{functions_from}
use Rattle.addr2line_functions.proofs.FunctionEntrySteps.{functions_then, functions-start, functions-more, functions-refused, functions-end, function-takes, some_left, none_left}
use Rattle.addr2line_functions.proofs.functions.read_functions.Goals as goal

pub loop-alloc-init : goal.loop-alloc-init
loop-alloc-init g c =
    functions-start g.R.Offset.ReaderOffset.limit c.args.unit.now c.new-functions.result
    c.in_ok-entries.entries c.in_ok-entries.ensures.limit
    c.new-functions.ensures c.in_ok-entries.ensures.value

pub returns-in_err-next : goal.returns-in_err-next
returns-in_err-next g c =
    let p = err_from_is_err_and c.from_residual-in_err-next.result c.from_residual-in_err-next.ensures.1 in
    let w = c.find_function.new.entries in
    let found = c.loop-alloc.functions in
    rw (p.1, p.2)
    (λ m. sym c.loop-alloc.invariant
    ∙ ap (functions_then found) (sym (c.find_function.ensures.functions c.args.unit.now))
    ∙ functions-refused g.R.Offset.ReaderOffset.limit c.args.unit.now found w c.in_err-next.field-0.0
    (some_left (bytes_left w.rest) c.find_function.result c.find_function.ensures.left c.loop-alloc-test.true)
    (c.in_err-next.ensures m))

pub loop-alloc-smaller : goal.loop-alloc-smaller
loop-alloc-smaller g c =
    let takes = function-takes g.R.Offset.ReaderOffset.limit c.args.unit.now c.find_function.new.entries
    c.next_function.new.entries c.in_ok-next.next c.in_ok-next.ensures in
    let within = c.find_function.ensures.within in
    omega (arith, takes, within)

pub loop-alloc-preserved : goal.loop-alloc-preserved
loop-alloc-preserved g c =
    let limit = g.R.Offset.ReaderOffset.limit in
    let u = c.args.unit.now in
    let found = c.loop-alloc.functions in
    let next = c.in_ok-next.next in
    ap (λ l. functions_then l (functions_from limit u c.next_function.new.entries))
    c.in_ok-functions.ensures.ok
    ∙ functions-more limit u found c.find_function.new.entries c.next_function.new.entries next c.in_ok-next.ensures
    ∙ ap (functions_then found) (c.find_function.ensures.functions u)
    ∙ c.loop-alloc.invariant

pub returns : goal.returns
returns g c =
    let w = c.find_function.new.entries in
    let found = c.loop-alloc.functions in
    sym c.loop-alloc.invariant
    ∙ ap (functions_then found) (sym (c.find_function.ensures.functions c.args.unit.now))
    ∙ functions-end g.R.Offset.ReaderOffset.limit c.args.unit.now found w
    (none_left (bytes_left w.rest) c.find_function.result c.find_function.ensures.left c.loop-alloc-test.false)
