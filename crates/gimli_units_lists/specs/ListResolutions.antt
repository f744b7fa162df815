-- What the entries of a list stand for, one after the other.
use Rattle.std.specs.Prelude.{ℕ, List, [], ◌∷◌, ◌++◌, Option, Some, None, unwrap_or, Result, Ok, Err}
use Rattle.std.specs.List.{filter_map, last_or}
use Rattle.gimli_core_readers.specs.Error.{Error}

-- the base of an entry with these before it: that of the last of them that sets one, else the first
abbrev pub base_after : {E : Type 0} → (E → Option ℕ) → ℕ → List E → ℕ
base_after sets first before = unwrap_or (last_or None (filter_map sets before)) first

-- an answer, unless the entry is skipped
abbrev pub answer_list : {A : Type 0} → Result (Option A) Error → List (Result A Error)
answer_list (Ok None) = []
answer_list (Ok (Some x)) = Ok x ∷ []
answer_list (Err e) = Err e ∷ []

-- What entries stand for, each at its base, with the entries before them. The fault of one takes
-- its place.
abbrev pub resolutions_after : {E A : Type 0} → (E → Option ℕ)
    → (ℕ → E → Result (Option A) Error) → ℕ
    → List E → List (Result E Error) → List (Result A Error)
resolutions_after sets resolve first before [] = []
resolutions_after sets resolve first before (Ok e ∷ rest) =
    answer_list (resolve (base_after sets first before) e)
    ++ resolutions_after sets resolve first (before ++ e ∷ []) rest
resolutions_after sets resolve first before (Err fault ∷ rest) =
    Err fault ∷ resolutions_after sets resolve first before rest

-- the same of a whole list
abbrev pub resolutions : {E A : Type 0} → (E → Option ℕ)
    → (ℕ → E → Result (Option A) Error) → ℕ
    → List (Result E Error) → List (Result A Error)
resolutions sets resolve first entries = resolutions_after sets resolve first [] entries
