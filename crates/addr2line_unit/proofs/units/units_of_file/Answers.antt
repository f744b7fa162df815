use Rattle.std.proofs.Common.{◌≡◌, sym, ap, subst, ◌∙◌, map}
use Rattle.std.proofs.lemmas.Result.{err_from_is_err_and}
use Rattle.addr2line_functions.specs.Tiling.{whole_section}
use Rattle.addr2line_functions.specs.UnitHeaders.{units_to_come}
use Rattle.addr2line_functions.specs.UnitFacts.{in_file}
use Rattle.addr2line_root.specs.CachedFiles.{CachedFile}
use Rattle.addr2line_functions.specs.DwarfFiles.{DwarfFile}
use Rattle.addr2line_functions.specs.Contexts.{facts_of_code_unit, headers_of}
use Rattle.addr2line_unit.specs.ResolvedUnits.{value_of_unit, new_unit, new_units, KeepNoFunctions, RunForRangesAlone}
use Rattle.addr2line_unit.proofs.UnitReading.{read_start, read_ended, append_more, append_refused}
use Rattle.addr2line_unit.proofs.units.units_of_file.Goals as goal

pub loop-headers-init : goal.loop-headers-init
loop-headers-init g c =
    let limit = g.R.Offset.ReaderOffset.limit in
    let file : DwarfFile = c.args.sections.now.value.file in
    let of_file = c.as_ref.ensures in
    let whole : c.in_ok-headers.headers ≡ whole_section c.as_ref.result.now.file.sections.debug_info =
    cc c.in_ok-headers.ensures.value in
    record {
      units =
          read_start (facts_of_code_unit file) (λ u. new_unit (in_file file u))
          (units_to_come limit c.in_ok-headers.headers) (headers_of file)
          (map value_of_unit c.new-units.result.items) (ap (map value_of_unit) c.new-units.ensures.items)
          (ap (units_to_come limit) whole
          ∙ ap (λ n. units_to_come n (whole_section c.as_ref.result.now.file.sections.debug_info))
          (sym c.in_ok-headers.ensures.limit)
          ∙ ap (λ (s : CachedFile). headers_of s.file) of_file);
      lines = subst RunForRangesAlone (sym c.new-units.ensures.items) tt;
      functions = subst KeepNoFunctions (sym c.new-units.ensures.items) tt;
      last = c.new-last.ensures.files file;
    }

pub returns-in_err-headers-clause-units : goal.returns-in_err-headers-clause-units
returns-in_err-headers-clause-units g c =
    let p =
    err_from_is_err_and c.from_residual.result c.from_residual.ensures.1 in
    rw (p.1, p.2) (λ m. cc (c.in_err-headers.ensures.value m))

pub returns-in_err-header-clause-units : goal.returns-in_err-header-clause-units
returns-in_err-header-clause-units g c =
    let limit = g.R.Offset.ReaderOffset.limit in
    let file : DwarfFile = c.args.sections.now.value.file in
    let p =
    err_from_is_err_and c.from_residual-in_err-header.result c.from_residual-in_err-header.ensures.1 in
    rw (p.1, p.2) (λ m.
    read_ended (facts_of_code_unit file) (λ u. new_unit (in_file file u))
    (units_to_come limit c.loop-headers.headers) (units_to_come limit c.next.new.self)
    (map value_of_unit c.loop-headers.units.items) (new_units file) _ m
    c.in_err-header.ensures.order c.loop-headers.invariant.units)

pub returns-in_err-push_context_unit-clause-units : goal.returns-in_err-push_context_unit-clause-units
returns-in_err-push_context_unit-clause-units g c =
    let limit = g.R.Offset.ReaderOffset.limit in
    let file : DwarfFile = c.args.sections.now.value.file in
    let p =
    err_from_is_err_and c.from_residual-in_err-push_context_unit.result
    c.from_residual-in_err-push_context_unit.ensures.1 in
    rw (p.1, p.2) (λ m.
    append_refused (facts_of_code_unit file) (λ u. new_unit (in_file file u))
    (units_to_come limit c.loop-headers.headers) (units_to_come limit c.next.new.self)
    c.in_ok-header.field-0 c.in-Some.header (map value_of_unit c.loop-headers.units.items) c.in-Some.is
    c.in_ok-header.ensures.order (new_units file) c.loop-headers.invariant.units _
    (c.in_err-push_context_unit.ensures.units m))

pub loop-headers-preserved : goal.loop-headers-preserved
loop-headers-preserved g c =
    let limit = g.R.Offset.ReaderOffset.limit in
    let file : DwarfFile = c.args.sections.now.value.file in
    record {
      units =
          append_more (facts_of_code_unit file) (λ u. new_unit (in_file file u))
          (units_to_come limit c.loop-headers.headers) (units_to_come limit c.next.new.self)
          c.in_ok-header.field-0 c.in-Some.header (map value_of_unit c.loop-headers.units.items) c.in-Some.is
          c.in_ok-header.ensures.order (new_units file) c.loop-headers.invariant.units
          (map value_of_unit c.push_context_unit.new.units.items) c.in_ok-push_context_unit.ensures.units;
      lines = c.in_ok-push_context_unit.ensures.lines c.loop-headers.invariant.lines;
      functions = c.in_ok-push_context_unit.ensures.functions c.loop-headers.invariant.functions;
      last = c.in_ok-push_context_unit.ensures.last;
    }
