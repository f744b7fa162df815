use Rattle.std.proofs.Common.{◌≡◌, ℕ, cond, eqb, map, take, Some, None, option_map}
use Rattle.std.specs.Prelude.{IfSome}
use Rattle.std.specs.List.{list_any}
use Rattle.std.specs.Ordering.{nat_cmp}
use Rattle.std.specs.BTreeMap.{get}
use Rattle.gimli_core_abbrev.specs.TableLayout.{IsListOf}
use Rattle.gimli_core_abbrev.specs.TableCache.{table_view}
use Rattle.gimli_core_abbrev.specs.TableParsing.{table_at}
use Rattle.gimli_core_abbrev.proofs.cache.tables_of.Given as goal

-- the tables at the offsets so far, and the list that was read last
abbrev pub invariant-loop-offset : goal.invariant-loop-offset
invariant-loop-offset g l =
    record {
      tables : (offset : ℕ) → option_map table_view (get nat_cmp l.tables offset)
          ≡ cond (list_any (λ p. eqb p offset)
          (map (λ o. g.R.Offset.ReaderOffset.count o.0) (take l.offset-index l.offsets)))
          (Some (table_at offset l.section)) None;
      last : IfSome l.last (λ r. IsListOf l.section r.list.value r.before (g.R.Reader.view r.input));
    }
