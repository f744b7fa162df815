use Rattle.std.proofs.Common.{◌∙◌, ap, sym, map, List, Ok}
use Rattle.std.proofs.lemmas.Result.{err_from_is_err_and}
use Rattle.addr2line_unit.specs.Error.TheVariants.{Memory}
use Rattle.addr2line_unit.specs.Lookups.{one_each}
use Rattle.addr2line_unit.specs.UnitRange.{UnitRange}
use Rattle.addr2line_unit.specs.ResolvedUnits.{value_of_unit}
use Rattle.addr2line_lookups.specs.Preloads.{load_of_item, loads_at}
use Rattle.addr2line_lookups.proofs.AskedFunctions.{is_value}
use Rattle.addr2line_lookups.proofs.FirstLoads.{none_here}
use Rattle.addr2line_lookups.proofs.UnitProbes.{refused_so}
use Rattle.addr2line_lookups.proofs.ListedLoads.{no_numbers, listed_none, listed_next, listed_all}
use Rattle.addr2line_lookups.proofs.preload.pending_loads.Goals as goal

pub loop-range-init : goal.loop-range-init
loop-range-init g c = (
  listed_none (map load_of_item c.new-loads.result.items)
      (loads_at (map value_of_unit c.args.units.now) c.covering-covering.result)
      (ap (map load_of_item) c.new-loads.ensures.items)
      ∙ ap (λ rs. one_each (loads_at (map value_of_unit c.args.units.now) rs)) c.covering-covering.ensures,
  no_numbers (map load_of_item c.new-loads.result.items) c.new-numbers.result
      (ap (map load_of_item) c.new-loads.ensures.items) c.new-numbers.ensures.empty,
  λ none.
      ap (λ (rs : List UnitRange). loads_at (map value_of_unit c.args.units.now) rs) c.covering-covering.ensures ∙ none,
)

pub loop-range-preserved : goal.loop-range-preserved
loop-range-preserved g c = (
  listed_next (map value_of_unit c.args.units.now) c.in-Some.range c.loop-range.covering c.next.new.self
      (map load_of_item c.loop-range.loads.items) (map load_of_item c.add_load_at.new.loads.items) _
      c.in-Some.ensures.none c.in_ok-add_load_at.ensures.loads c.loop-range.invariant.0,
  c.in_ok-add_load_at.ensures.numbers,
  λ none.
      (none_here (map value_of_unit c.args.units.now) c.in-Some.range c.loop-range.covering c.next.new.self
      c.in-Some.ensures.none (c.loop-range.invariant.2 none)).1,
)

pub add_load_at-requires : goal.add_load_at-requires
add_load_at-requires g c = c.loop-range.invariant.1

pub returns : goal.returns
returns g c = record {
  loads =
      ap Ok (sym (listed_all (map value_of_unit c.args.units.now) c.loop-range.covering
      (map load_of_item c.loop-range.loads.items) _ c.in_default.ensures.none c.loop-range.invariant.0));
  free = λ none. is_value _;
}

pub returns-in_err-add_load_at : goal.returns-in_err-add_load_at
returns-in_err-add_load_at g c =
    let p = err_from_is_err_and c.from_residual.result c.from_residual.ensures.1 in
    record {
      loads = rw (p.1, p.2) (λ m. cc (c.in_err-add_load_at.ensures.loads m));
      free =
          rw (p.1, p.2) (λ none.
          refused_so (Unit {0}) _ _ Memory
          (c.in_err-add_load_at.ensures.free
          (none_here (map value_of_unit c.args.units.now) c.in-Some.range c.loop-range.covering c.next.new.self
          c.in-Some.ensures.none (c.loop-range.invariant.2 none)).0));
    }
