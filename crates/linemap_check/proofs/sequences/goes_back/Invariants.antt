use Rattle.std.proofs.Common.{◌≡◌, drop, map}
use Rattle.linemap_meaning.specs.Conditions.{goes_back, goes_back_from}
use Rattle.linemap_meaning.specs.TableViews.{row_part}
use Rattle.linemap_check.proofs.sequences.goes_back.Given as goal

abbrev pub invariant-loop-row : goal.invariant-loop-row
invariant-loop-row l =
    goes_back (map row_part l.rows) ≡ goes_back_from l.before (map row_part (drop l.row-index l.rows))
