use Rattle.std.proofs.Common.{ap, sym, ◌∙◌, subst, ℕ, is_some, get_or, Option}
use Rattle.std.specs.Prelude.{IfSome}
use Rattle.std.specs.Ordering.{nat_cmp}
use Rattle.std.specs.BTreeMap.{get}
use Rattle.gimli_core_readers.specs.DebugAbbrevOffset.{DebugAbbrevOffset}
use Rattle.gimli_core_abbrev.specs.Declarations.{Declaration}
use Rattle.gimli_core_abbrev.specs.CheckedTables.{IsDeclarationAt}
use Rattle.gimli_core_abbrev.proofs.OtherTables.{entry_at, others_more, others_same, others_checked, others_cached}
use Rattle.gimli_core_abbrev.proofs.cache.check_others.Goals as goal

-- what contracts see of an offset
abbrev place_of : {O R : Type 0} → (O → ℕ) → DebugAbbrevOffset O × R → ℕ
place_of count root = count root.0.0

pub loop-index-preserved-then-contains_key : goal.loop-index-preserved-then-contains_key
loop-index-preserved-then-contains_key g c =
    let item = ap (get_or c.args.roots.now c.loop-index.index) c.index-roots-index.is in
    let there = ap (λ (k : ℕ). is_some (get nat_cmp c.loop-index.tables k)) (sym c.into_u64-place.ensures.value)
    ∙ sym c.contains_key.ensures ∙ c.if-contains_key.true in
    record {
      others = others_more (place_of g.R.Offset.ReaderOffset.count) _ _ _ _ _ _ _ item c.loop-index-test.true
          (others_same _ _ _ _ _ _ there c.loop-index.invariant.others);
      last = c.loop-index.invariant.last;
    }

pub loop-index-preserved-in-Some : goal.loop-index-preserved-in-Some
loop-index-preserved-in-Some g c =
    let item = ap (get_or c.args.roots.now c.loop-index.index) c.index-roots-index.is in
    let place =
    place_of g.R.Offset.ReaderOffset.count (get_or c.args.roots.now c.loop-index.index c.index-roots-index.result) in
    record {
      others = others_more (place_of g.R.Offset.ReaderOffset.count) _ _ _ _ _ _ _ item c.loop-index-test.true
          (others_checked _ _ _ _ _ _ _ c.in-Some.found
          (entry_at _ _ _ _ _ c.into_u64-place.ensures.value c.in_ok-insert.ensures.updates.0)
          (subst (λ (o : Option Declaration). IfSome o (IsDeclarationAt c.args.section.now place)) c.in-Some.is
          c.in_ok-found.ensures.ok)
          c.loop-index.invariant.others);
      last = c.find_apart.ensures.last;
    }

pub loop-index-preserved : goal.loop-index-preserved
loop-index-preserved g c =
    let item = ap (get_or c.args.roots.now c.loop-index.index) c.index-roots-index.is in
    record {
      others = others_more (place_of g.R.Offset.ReaderOffset.count) _ _ _ _ _ _ _ item c.loop-index-test.true
          (others_cached _ _ _ _ _ _ _ c.in_ok-table.table
          (entry_at _ _ _ _ _ c.into_u64-place.ensures.value c.in_ok-put_table.ensures.ok) c.in_ok-table.ensures.ok
          c.loop-index.invariant.others);
      last = c.next_table.ensures.last;
    }
