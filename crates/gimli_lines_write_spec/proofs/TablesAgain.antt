-- Tables are read again, item by item.
use Rattle.std.proofs.Common.{ℕ, ◌+◌, Bool, List, [], ◌∷◌, length, refl}
use Rattle.std.specs.Prelude.{flat_map, All}
use Rattle.std.proofs.lemmas.List.Elements.{All-head, All-tail}
use Rattle.gimli_lines_write_rows.specs.Parsers.{Parser, give, ◌>>=◌}
use Rattle.gimli_lines_write_rows.specs.Repetition.{times}
use Rattle.gimli_lines_write_rows.proofs.FollowedReads.{Again, again_nothing, again_onward, again_then}
use Rattle.gimli_lines_write_rows.specs.BytesAt.{values_at}

-- ---- a number of items

module _ {A T : Type 0} (p : Parser A) (is_big : Bool) (string_of : T → List ℕ) (value : ℕ → T → A) (Good : T → Type 0)
  where
    pub times_again : (first : ℕ) (ts : List T)
        → ((n : ℕ) (t : T) → Good t → Again is_big n p (value n t) (string_of t))
        → All Good ts
        → Again is_big first (times (length ts) p) (values_at string_of value first ts) (flat_map string_of ts)
    unfolding times
    times_again first [] each good = again_nothing is_big first []
    times_again first (t ∷ ts) each good =
        again_onward (λ x. times (length ts) p >>= λ xs. give (x ∷ xs)) (each first t (All-head Good t ts good))
        (again_then (λ xs. give (value first t ∷ xs))
        (times_again (first + length (string_of t)) ts each (All-tail Good t ts good)) (λ v. refl))
