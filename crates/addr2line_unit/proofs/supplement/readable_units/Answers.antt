use Rattle.std.proofs.Common.{◌≡◌, sym, ap, ◌∙◌}
use Rattle.addr2line_functions.specs.Tiling.{whole_section}
use Rattle.addr2line_functions.specs.UnitHeaders.{DebugUnit, units_to_come}
use Rattle.addr2line_functions.specs.UnitFacts.{unit_facts}
use Rattle.addr2line_functions.specs.Contexts.{readable_facts, headers_of}
use Rattle.addr2line_unit.specs.ContextUnits.{readable_units}
use Rattle.addr2line_unit.proofs.UnitReading.{read_start, read_more, ok_of, if_any_ok, read_ok}
use Rattle.addr2line_unit.proofs.supplement.readable_units.Goals as goal

pub loop-headers-init : goal.loop-headers-init
loop-headers-init g c =
    let limit = g.R.Offset.ReaderOffset.limit in
    let choose = λ (h : DebugUnit). readable_facts (unit_facts c.args.dwarf.now.file h) in
    let whole : c.in_ok-headers.headers ≡ whole_section c.args.dwarf.now.file.sections.debug_info =
    cc c.in_ok-headers.ensures.value in
    read_start choose ok_of (units_to_come limit c.in_ok-headers.headers) (headers_of c.args.dwarf.now.file)
    c.new-units.result.items c.new-units.ensures.items
    (ap (units_to_come limit) whole
    ∙ ap (λ n. units_to_come n (whole_section c.args.dwarf.now.file.sections.debug_info))
    (sym c.in_ok-headers.ensures.limit))
    ∙ read_ok choose (headers_of c.args.dwarf.now.file)

pub loop-headers-preserved : goal.loop-headers-preserved
loop-headers-preserved g c =
    let limit = g.R.Offset.ReaderOffset.limit in
    let choose = λ (h : DebugUnit). readable_facts (unit_facts c.args.dwarf.now.file h) in
    read_more choose ok_of (units_to_come limit c.loop-headers.headers) (units_to_come limit c.next.new.self)
    c.in_ok-header.field-0 c.in-Some.header c.in_ok-unit.unit c.loop-headers.units.items c.push_if_any.new.items.items
    c.in-Some.is c.in_ok-header.ensures.order
    (if_any_ok (choose c.in-Some.header) ∙ c.in_ok-unit.ensures) c.in_ok-push_if_any.ensures.ok
    (readable_units c.args.dwarf.now.file) c.loop-headers.invariant
