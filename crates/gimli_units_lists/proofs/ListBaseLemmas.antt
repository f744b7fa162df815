-- The base of an entry by looking back is the one that is kept while going on.
use Rattle.std.proofs.Common.{◌≡◌, ℕ, List, [], ◌∷◌, ◌++◌, Option, Some, None, unwrap_or, Result, Ok, Err, refl, sym, ◌∙◌, ap, append_assoc, append-nil}
use Rattle.std.specs.List.{filter_map, last_or, cons_option}
use Rattle.gimli_core_readers.specs.Error.{Error}
use Rattle.gimli_units_lists.specs.ListResolutions.{base_after, answer_list, resolutions_after, resolutions}
use Rattle.gimli_units_lists.specs.ListEntries.{Setting}

-- with one that sets a base, the first doesn't count
last_known : (x first other : ℕ) (xs : List ℕ)
    → unwrap_or (last_or (Some x) xs) first ≡ unwrap_or (last_or (Some x) xs) other
last_known x first other [] = refl
last_known x first other (y ∷ xs) = last_known y first other xs

last_from : (x first : ℕ) (xs : List ℕ) → unwrap_or (last_or (Some x) xs) first ≡ unwrap_or (last_or None xs) x
last_from x first [] = refl
last_from x first (y ∷ xs) = last_known y first x xs

-- the base after an entry is that of a list that begins after it
base_after_entry : (first : ℕ) (o : Option ℕ) (xs : List ℕ)
    → unwrap_or (last_or None (cons_option o xs)) first ≡ unwrap_or (last_or None xs) (unwrap_or o first)
base_after_entry first None xs = refl
base_after_entry first (Some x) xs = last_from x first xs

-- entries that have the same bases stand for the same
resolutions_alike : {E A : Type 0} (sets : E → Option ℕ) (resolve : ℕ → E → Result (Option A) Error) (f g : ℕ)
    (p q : List E) → ((es : List E) → base_after sets f (p ++ es) ≡ base_after sets g (q ++ es))
    → (answers : List (Result E Error))
    → resolutions_after sets resolve f p answers ≡ resolutions_after sets resolve g q answers
resolutions_alike sets resolve f g p q k [] = refl
resolutions_alike {E} {A} sets resolve f g p q k (Ok e ∷ rest) =
    let base : base_after sets f p ≡ base_after sets g q =
    ap (base_after sets f) (sym (append-nil p)) ∙ k [] ∙ ap (base_after sets g) (append-nil q) in
    let more : (es : List E) → base_after sets f ((p ++ e ∷ []) ++ es) ≡ base_after sets g ((q ++ e ∷ []) ++ es) =
    λ es. ap (base_after sets f) (append_assoc p (e ∷ []) es) ∙ k (e ∷ es)
    ∙ ap (base_after sets g) (sym (append_assoc q (e ∷ []) es)) in
    ap (λ b. answer_list (resolve b e) ++ resolutions_after sets resolve f (p ++ e ∷ []) rest) base
    ∙ ap (λ (ys : List (Result A Error)). answer_list (resolve (base_after sets g q) e) ++ ys)
    (resolutions_alike sets resolve f g (p ++ e ∷ []) (q ++ e ∷ []) more rest)
resolutions_alike {E} {A} sets resolve f g p q k (Err d ∷ rest) =
    ap (λ (ys : List (Result A Error)). Err d ∷ ys) (resolutions_alike sets resolve f g p q k rest)

-- an entry, and what comes after it at the base that it leaves
pub resolutions_step : {E A : Type 0} (sets : E → Option ℕ) (resolve : ℕ → E → Result (Option A) Error) (b : ℕ) (e : E)
    (rest : List (Result E Error))
    → resolutions sets resolve b (Ok e ∷ rest) ≡ answer_list (resolve b e)
    ++ resolutions sets resolve (unwrap_or (sets e) b) rest
resolutions_step {E} {A} sets resolve b e rest =
    ap (λ (ys : List (Result A Error)). answer_list (resolve b e) ++ ys)
    (resolutions_alike sets resolve b (unwrap_or (sets e) b) (e ∷ []) []
    (λ es. base_after_entry b (sets e) (filter_map sets es)) rest)

-- the same of what an iterator has left, before and after an entry
pub resolutions_next : {E A : Type 0} (sets : Setting → E → Option ℕ)
    (resolve : Setting → ℕ → E → Result (Option A) Error) (s t : Setting) (b c : ℕ) (l m : List (Result E Error))
    (e : E) → l ≡ Ok e ∷ m → t ≡ s → c ≡ unwrap_or (sets s e) b
    → resolutions (sets s) (resolve s) b l ≡ answer_list (resolve s b e) ++ resolutions (sets t) (resolve t) c m
resolutions_next {E} {A} sets resolve s t b c l m e is same base =
    ap (resolutions (sets s) (resolve s) b) is
    ∙ resolutions_step (sets s) (resolve s) b e m
    ∙ ap (λ (d : ℕ). answer_list (resolve s b e) ++ resolutions (sets s) (resolve s) d m) (sym base)
    ∙ ap (λ (u : Setting). answer_list (resolve s b e) ++ resolutions (sets u) (resolve u) c m) (sym same)
