use Rattle.std.proofs.Common.{map, take}
use Rattle.std.specs.Prelude.{IfSome}
use Rattle.std.specs.Ordering.{nat_cmp}
use Rattle.std.specs.BTreeMap.{get}
use Rattle.gimli_core_abbrev.specs.TableLayout.{IsListOf}
use Rattle.gimli_core_abbrev.specs.CheckedTables.{ChecksOthers}
use Rattle.gimli_core_abbrev.proofs.cache.check_others.Given as goal

-- those at the offsets so far, and the list that was read last
abbrev pub invariant-loop-index : goal.invariant-loop-index
invariant-loop-index g l =
    record {
      others : ChecksOthers l.section (map (λ o. g.R.Offset.ReaderOffset.count o.0.0) (take l.index l.roots))
          (get nat_cmp l.fn.tables) (get nat_cmp l.tables) (get nat_cmp l.kept);
      last : IfSome l.last (λ r. IsListOf l.section r.list.value r.before (g.R.Reader.view r.input));
    }
