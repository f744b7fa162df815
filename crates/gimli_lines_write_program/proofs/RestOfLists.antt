-- What holds of all things where it holds of the rest of them.
use Rattle.std.proofs.Common.{◌≡◌, ℕ, ◌+◌, ◌<◌, List, drop, map, length, get_or, sym, subst}
use Rattle.std.specs.Prelude.{All}
use Rattle.gimli_lines_write_tables.proofs.JoinedWrites.{next_drop}
use Rattle.std.proofs.lemmas.List.Elements.{All-cons}

-- All hold, where those from a place on do.
abbrev pub Rest : {A B : Type 0} → (B → Type 0) → (A → B) → List A → ℕ → Type 0
Rest P see xs i = All P (map see (drop i xs)) → All P (map see xs)

pub rest_next : {A B : Type 0} (P : B → Type 0) (see : A → B) (xs : List A) (i : ℕ) (x : A) → i < length xs
    → x ≡ get_or xs i x → P (see x) → Rest P see xs i → Rest P see xs (i + 1)
rest_next P see xs i x h is holds rest = λ later.
    rest (subst (λ ys. All P (map see ys)) (sym (next_drop xs i x h))
    (All-cons P (see (get_or xs i x)) (map see (drop (i + 1) xs)) (subst (λ y. P (see y)) is holds) later))
