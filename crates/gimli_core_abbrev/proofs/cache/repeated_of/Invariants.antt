use Rattle.std.proofs.Common.{◌≡◌, ℕ, eqb, leb, map, take, count_by}
use Rattle.std.specs.List.{list_any}
use Rattle.std.specs.Ordering.{nat_cmp}
use Rattle.std.specs.BTreeSet.{contains}
use Rattle.gimli_core_abbrev.proofs.cache.repeated_of.Given as goal

-- the offsets so far, and those that came twice or more
abbrev pub invariant-loop-offset : goal.invariant-loop-offset
invariant-loop-offset g l =
    let places = map (λ o. g.O.ReaderOffset.count o.0) (take l.offset-index l.offsets) in
    record {
      distinct : (offset : ℕ) → contains nat_cmp l.distinct offset ≡ list_any (λ p. eqb p offset) places;
      repeated : (offset : ℕ) → list_any (λ p. eqb p offset) (map (λ o. g.O.ReaderOffset.count o.0) l.repeated.items)
          ≡ leb 2 (count_by (λ p. eqb p offset) places);
    }
