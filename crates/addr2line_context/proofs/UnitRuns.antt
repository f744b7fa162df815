-- A line number program is run at most once.
use Rattle.std.proofs.Common.{◌≤◌, Bool, true, false, is_some, if◌then◌else◌, lit≤}
use Rattle.addr2line_lookups.specs.ResolvedUnits.{ResolvedUnit, runs_of_unit}

pub runs_once : (u : ResolvedUnit) → (runs_of_unit u).count ≤ 1
runs_once u = by u.keeps_lines (is_some u.value.unit.facts.line_header)
  where
    by : (is_kept has_program : Bool) → (if is_kept then (if has_program then 1 else 0) else 0) ≤ 1
    by true true = lit≤ tt
    by true false = lit≤ tt
    by false has_program = lit≤ tt
