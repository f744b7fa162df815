use Rattle.std.proofs.Common.{ℕ, eqb, map, sym}
use Rattle.std.proofs.lemmas.List.Sorted.{IsPermutation-map, list_any-IsPermutation}
use Rattle.gimli_core_readers.specs.DebugAbbrevOffset.{DebugAbbrevOffset}
use Rattle.gimli_core_abbrev.proofs.cache.ascending.Goals as goal

pub returns : goal.returns
returns g c =
    let count = λ (o : DebugAbbrevOffset g.row.O.Denot). g.O.ReaderOffset.count o.0 in
    let old = c.args.offsets.items in
    let new = c.sort_unstable_by_key.new.self.items in
    λ offset. sym (list_any-IsPermutation (λ (p : ℕ). eqb p offset) (map count old) (map count new)
    (IsPermutation-map count old new c.sort_unstable_by_key.ensures.permutation))
