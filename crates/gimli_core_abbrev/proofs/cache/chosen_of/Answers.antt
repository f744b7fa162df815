use Rattle.std.proofs.Common.{◌≡◌, ◌∙◌, ap, sym, ℕ, eqb, leb, count_by, List, map, Result, Ok, Err, IfOk, Vec, Global}
use Rattle.std.specs.List.{list_any}
use Rattle.gimli_core_abbrev.specs.declared.cache.AbbreviationsCacheStrategy.{AbbreviationsCacheStrategy}
use Rattle.gimli_core_abbrev.specs.declared.cache.AbbreviationsCacheStrategy.TheVariants.{Duplicates}
use Rattle.gimli_core_abbrev.specs.TableCache.{chosen_offsets}
use Rattle.gimli_core_abbrev.proofs.RepeatedOffsets.{among}
use Rattle.gimli_core_abbrev.proofs.CacheMaps.{among-Duplicates}
use Rattle.gimli_core_abbrev.proofs.cache.chosen_of.Goals as goal

twice : {X E : Type 0} (place : X → ℕ) (r : Result (Vec X Global) E) (xs ys : List X)
    (strategy : AbbreviationsCacheStrategy) → strategy ≡ Duplicates → xs ≡ ys
    → IfOk r (λ found. (offset : ℕ) → list_any (λ (p : ℕ). eqb p offset) (map place found.items) ≡ leb 2
    (count_by (λ (p : ℕ). eqb p offset) (map place xs)))
    → IfOk r (λ found. (offset : ℕ) → list_any (λ (p : ℕ). eqb p offset) (map place found.items)
    ≡ list_any (λ (p : ℕ). eqb p offset) (chosen_offsets strategy (map place ys)))
twice {X} place (Ok found) xs ys strategy asked same h =
    λ offset. h offset ∙ ap (λ (zs : List X). leb 2 (count_by (λ (p : ℕ). eqb p offset) (map place zs))) same
    ∙ sym (among-Duplicates offset (map place ys))
    ∙ ap (λ (s : AbbreviationsCacheStrategy). among offset (chosen_offsets s (map place ys))) (sym asked)
twice place (Err e) xs ys strategy asked same h = tt

pub returns-in-Duplicates-clause-ok : goal.returns-in-Duplicates-clause-ok
returns-in-Duplicates-clause-ok g c =
    twice (λ o. g.O.ReaderOffset.count o.0) c.repeated_of.result c.deref.result.now c.args.offsets.items c.args.strategy
    c.in-Duplicates.is c.deref.ensures.value c.repeated_of.ensures.ok
