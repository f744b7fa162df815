use Rattle.std.proofs.Common.{◌≡◌, ℕ, true, false, not, cond, leb, List, [], ◌∷◌, map, take, ap, sym, ◌∙◌}
use Rattle.std.specs.Ordering.{nat_cmp}
use Rattle.std.specs.BTreeSet.{contains}
use Rattle.std.specs.BTreeMap.{is_at}
use Rattle.std.proofs.lemmas.Bool.{not-true, not-false}
use Rattle.std.proofs.lemmas.List.{map-append, take_all}
use Rattle.gimli_core_readers.specs.DebugAbbrevOffset.{DebugAbbrevOffset}
use Rattle.gimli_core_abbrev.proofs.RepeatedOffsets.{among, times_among, places_more, distinct_more, repeated_new, repeated_again}
use Rattle.gimli_core_abbrev.proofs.cache.repeated_of.Goals as goal

pub loop-offset-preserved-then-branch : goal.loop-offset-preserved-then-branch
loop-offset-preserved-then-branch g c =
    let place = λ (o : DebugAbbrevOffset g.row.O.Denot). g.O.ReaderOffset.count o.0 in
    let x = c.offset-item.result in
    let before = map place (take c.loop-offset.offset-index c.args.offsets.now) in
    let more = places_more place c.args.offsets.now c.loop-offset.offset-index x c.offset-item.is
    c.loop-offset-test.true in
    let new : among (place x) before ≡ false = sym (c.loop-offset.invariant.distinct (place x))
    ∙ not-true _ (sym (c.in_ok-insert.ensures.added
    ∙ ap (λ (k : ℕ). not (contains nat_cmp c.loop-offset.distinct k)) c.into_u64.ensures.value) ∙ c.if-branch.true) in
    record {
      distinct = λ offset. distinct_more offset (place x) before _ _
          (c.in_ok-insert.ensures.updates.0 offset
          ∙ ap (λ (k : ℕ). cond (is_at (nat_cmp k) offset) true (contains nat_cmp c.loop-offset.distinct offset))
          c.into_u64.ensures.value) (c.loop-offset.invariant.distinct offset) ∙ ap (among offset) (sym more);
      repeated = λ offset. repeated_new offset (place x) before _ new (c.loop-offset.invariant.repeated offset)
          ∙ ap (λ (ps : List ℕ). leb 2 (times_among offset ps)) (sym more);
    }

pub loop-offset-preserved : goal.loop-offset-preserved
loop-offset-preserved g c =
    let place = λ (o : DebugAbbrevOffset g.row.O.Denot). g.O.ReaderOffset.count o.0 in
    let x = c.offset-item.result in
    let before = map place (take c.loop-offset.offset-index c.args.offsets.now) in
    let more = places_more place c.args.offsets.now c.loop-offset.offset-index x c.offset-item.is
    c.loop-offset-test.true in
    let there : among (place x) before ≡ true = sym (c.loop-offset.invariant.distinct (place x))
    ∙ not-false _ (sym (c.in_ok-insert.ensures.added
    ∙ ap (λ (k : ℕ). not (contains nat_cmp c.loop-offset.distinct k)) c.into_u64.ensures.value) ∙ c.if-branch.false) in
    record {
      distinct = λ offset. distinct_more offset (place x) before _ _
          (c.in_ok-insert.ensures.updates.0 offset
          ∙ ap (λ (k : ℕ). cond (is_at (nat_cmp k) offset) true (contains nat_cmp c.loop-offset.distinct offset))
          c.into_u64.ensures.value) (c.loop-offset.invariant.distinct offset) ∙ ap (among offset) (sym more);
      repeated = λ offset. ap (λ (xs : List _). among offset (map place xs)) c.in_ok-push.ensures.items
          ∙ ap (among offset) (map-append place c.loop-offset.repeated.items (x ∷ []))
          ∙ repeated_again offset (place x) before (map place c.loop-offset.repeated.items) there
          (c.loop-offset.invariant.repeated offset) ∙ ap (λ (ps : List ℕ). leb 2 (times_among offset ps)) (sym more);
    }

pub returns-clause-ok : goal.returns-clause-ok
returns-clause-ok g c =
    let place = λ (o : DebugAbbrevOffset g.row.O.Denot). g.O.ReaderOffset.count o.0 in
    λ offset. c.loop-offset.invariant.repeated offset
    ∙ ap (λ (xs : List _). leb 2 (times_among offset (map place xs)))
    (take_all c.loop-offset.offset-index c.args.offsets.now c.loop-offset-test.false)
