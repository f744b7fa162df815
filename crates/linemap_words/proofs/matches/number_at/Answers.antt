use Rattle.std.proofs.Common.{◌<◌, ◌^◌, ℕ, IfSome, IsSomeAnd, subst}
use Rattle.std.specs.Str.Parse.{ExplainsUnsignedError, HasUnsignedDigitsIfOk, ParsesUnsigned}
use Rattle.clap.specs.Words.{found_of}
use Rattle.clap.proofs.WalkLemmas.{one_text-rows}
use Rattle.linemap_words.specs.WordsRequest.{IsDecimal}
use Rattle.linemap_words.proofs.NumberLemmas.{no_number_of_text, number_of_text}
use Rattle.linemap_words.proofs.matches.number_at.Goals as goal

pub returns-clause-number : goal.returns-clause-number
returns-clause-number c =
    subst (λ o. IfSome c.get_one.result (λ n. IsSomeAnd o (λ text. IsDecimal text n)))
    (one_text-rows (found_of c.args.matches.now) c.args.id.now)
    (number_of_text _ (λ bs r. ParsesUnsigned 16 10 bs r × ExplainsUnsignedError 10 bs r × HasUnsignedDigitsIfOk bs r) _
    c.get_one.result c.get_one.ensures.none c.get_one.ensures.value (λ u x g. g.0))

pub returns-clause-none : goal.returns-clause-none
returns-clause-none c = λ none.
    subst (λ o. (n : ℕ) → n < 2 ^ 16 → IsSomeAnd o (λ text. IsDecimal text n) → ⊥)
    (one_text-rows (found_of c.args.matches.now) c.args.id.now)
    (no_number_of_text _
    (λ bs r. ParsesUnsigned 16 10 bs r × ExplainsUnsignedError 10 bs r × HasUnsignedDigitsIfOk bs r) _
    c.get_one.result c.get_one.ensures.value (λ u x g. g.0) none)
