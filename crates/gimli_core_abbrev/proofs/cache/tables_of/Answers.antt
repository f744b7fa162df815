use Rattle.std.proofs.Common.{◌∙◌, ap, sym, ℕ, cond, is_some, List, map, take, Some, None}
use Rattle.std.specs.Ordering.{nat_cmp}
use Rattle.std.specs.BTreeMap.{get, is_at}
use Rattle.gimli_core_readers.specs.DebugAbbrevOffset.{DebugAbbrevOffset}
use Rattle.gimli_core_abbrev.specs.TableParsing.{table_at}
use Rattle.gimli_core_abbrev.proofs.RepeatedOffsets.{among, places_more}
use Rattle.gimli_core_abbrev.proofs.CachedTables.{tables_more, tables_same}
use Rattle.gimli_core_abbrev.proofs.cache.tables_of.Goals as goal

pub loop-offset-preserved-then-contains_key : goal.loop-offset-preserved-then-contains_key
loop-offset-preserved-then-contains_key g c =
    let place = λ (o : DebugAbbrevOffset g.row.R-Offset.Denot). g.R.Offset.ReaderOffset.count o.0 in
    let x = c.offset-item.result in
    let before = map place (take c.loop-offset.offset-index c.args.offsets.now) in
    let tables = λ (o : ℕ). table_at o c.args.section.now in
    let more = places_more place c.args.offsets.now c.loop-offset.offset-index x c.offset-item.is
    c.loop-offset-test.true in
    let there = ap (λ (k : ℕ). is_some (get nat_cmp c.loop-offset.tables k)) (sym c.into_u64-place.ensures.value)
    ∙ sym c.contains_key.ensures ∙ c.if-contains_key.true in
    record {
      tables = λ offset.
          tables_same offset (place x) before tables (get nat_cmp c.loop-offset.tables (place x))
          (get nat_cmp c.loop-offset.tables offset)
          there (c.loop-offset.invariant.tables (place x)) (c.loop-offset.invariant.tables offset)
          ∙ ap (λ (ps : List ℕ). cond (among offset ps) (Some (tables offset)) None) (sym more);
      last = c.loop-offset.invariant.last;
    }

pub loop-offset-preserved : goal.loop-offset-preserved
loop-offset-preserved g c =
    let place = λ (o : DebugAbbrevOffset g.row.R-Offset.Denot). g.R.Offset.ReaderOffset.count o.0 in
    let x = c.offset-item.result in
    let before = map place (take c.loop-offset.offset-index c.args.offsets.now) in
    let tables = λ (o : ℕ). table_at o c.args.section.now in
    let more = places_more place c.args.offsets.now c.loop-offset.offset-index x c.offset-item.is
    c.loop-offset-test.true in
    record {
      tables = λ offset.
          tables_more offset (place x) before tables c.in_ok-table.table (get nat_cmp c.loop-offset.tables offset) _
          (c.in_ok-put_table.ensures.ok offset
          ∙ ap (λ (k : ℕ). cond (is_at (nat_cmp k) offset) (Some c.in_ok-table.table)
          (get nat_cmp c.loop-offset.tables offset)) c.into_u64-place.ensures.value)
          c.in_ok-table.ensures.ok (c.loop-offset.invariant.tables offset)
          ∙ ap (λ (ps : List ℕ). cond (among offset ps) (Some (tables offset)) None) (sym more);
      last = c.next_table.ensures.last;
    }
