use Rattle.std.proofs.Common.{ℕ, cond, eqb, map, sym}
use Rattle.std.proofs.lemmas.List.Sorted.{IsPermutation-map, list_any-IsPermutation, sum_by-IsPermutation}
use Rattle.gimli_core_readers.specs.DebugAbbrevOffset.{DebugAbbrevOffset}
use Rattle.gimli_core_abbrev.proofs.cache.ascending_roots.Goals as goal

pub returns-clause-among : goal.returns-clause-among
returns-clause-among g c =
    let count = λ (root : DebugAbbrevOffset g.row.O.Denot × ℕ). g.O.ReaderOffset.count root.0.0 in
    let old = c.args.roots.items in
    let new = c.sort_unstable_by_key.new.self.items in
    λ offset. sym (list_any-IsPermutation (λ (p : ℕ). eqb p offset) (map count old) (map count new)
    (IsPermutation-map count old new c.sort_unstable_by_key.ensures.permutation))

pub returns-clause-times : goal.returns-clause-times
returns-clause-times g c =
    let count = λ (root : DebugAbbrevOffset g.row.O.Denot × ℕ). g.O.ReaderOffset.count root.0.0 in
    let old = c.args.roots.items in
    let new = c.sort_unstable_by_key.new.self.items in
    λ offset. sum_by-IsPermutation (λ (p : ℕ). cond (eqb p offset) 1 0) (map count old) (map count new)
    (IsPermutation-map count old new c.sort_unstable_by_key.ensures.permutation)
