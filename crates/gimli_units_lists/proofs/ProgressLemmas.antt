-- What a call takes of the entries, one after the other.
use Rattle.std.proofs.Common.{◌≡◌, ℕ, List, [], ◌∷◌, ◌++◌, Option, None, unwrap_or, Result, Ok, Err, refl, sym, ◌∙◌, ap, append_assoc}
use Rattle.gimli_core_readers.specs.Error.{Error}
use Rattle.gimli_units_lists.specs.ListResolutions.{answer_list, resolutions}
use Rattle.gimli_units_lists.specs.ListEntries.{Setting}
use Rattle.gimli_units_lists.specs.Lists.{ListKind, Resolution, RemainingList, entries_of}
use Rattle.gimli_units_lists.specs.ListProgress.{StandFor, SkipsEntries, StopsAfter, Skips, Finds}
use Rattle.gimli_units_lists.proofs.ListBaseLemmas.{resolutions_step}

-- ---- entries

-- an entry stands for what it resolves to, and leaves the base that it sets
stand_one : {E A : Type 0} (sets : E → Option ℕ) (resolve : ℕ → E → Result (Option A) Error) (b c : ℕ) (e : E)
    (r : Result (Option A) Error) → resolve b e ≡ r → c ≡ unwrap_or (sets e) b
    → StandFor sets resolve b (Ok e ∷ []) (answer_list r) c
stand_one {E} {A} sets resolve b c e r is at = λ rest.
    resolutions_step sets resolve b e rest
    ∙ ap (λ (x : Result (Option A) Error). answer_list x ++ resolutions sets resolve (unwrap_or (sets e) b) rest) is
    ∙ ap (λ (d : ℕ). answer_list r ++ resolutions sets resolve d rest) (sym at)

-- none so far
pub passes_none : {E A : Type 0} (sets : E → Option ℕ) (resolve : ℕ → E → Result (Option A) Error) (b : ℕ)
    (l : List (Result E Error)) → SkipsEntries sets resolve b b l l
passes_none sets resolve b l = record { skips = []; splits = refl; nothing = λ rest. refl }

-- one more that stands for nothing
passes_one : {E A : Type 0} (sets : E → Option ℕ) (resolve : ℕ → E → Result (Option A) Error) (first b c : ℕ)
    (all l m : List (Result E Error)) (e : E) → SkipsEntries sets resolve first b all l → l ≡ Ok e ∷ m
    → resolve b e ≡ Ok None → c ≡ unwrap_or (sets e) b → SkipsEntries sets resolve first c all m
passes_one {E} {A} sets resolve first b c all l m e p is none at = record {
  skips = p.skips ++ Ok e ∷ [];
  splits = p.splits ∙ ap (λ (x : List (Result E Error)). p.skips ++ x) is ∙ sym (append_assoc p.skips (Ok e ∷ []) m);
  nothing = λ rest.
      ap (resolutions sets resolve first) (append_assoc p.skips (Ok e ∷ []) rest)
      ∙ p.nothing (Ok e ∷ rest)
      ∙ stand_one sets resolve b c e (Ok None) none at rest;
}

-- one that stands for an answer
stops_at : {E A : Type 0} (sets : E → Option ℕ) (resolve : ℕ → E → Result (Option A) Error) (first b c : ℕ)
    (all l m : List (Result E Error)) (e : E) (r : Result (Option A) Error) (x : Result A Error)
    → SkipsEntries sets resolve first b all l → l ≡ Ok e ∷ m → resolve b e ≡ r → answer_list r ≡ x ∷ []
    → c ≡ unwrap_or (sets e) b → StopsAfter sets resolve first c all m x
stops_at {E} {A} sets resolve first b c all l m e r x p is resolves one at = record {
  skips = p.skips;
  last = Ok e;
  between = b;
  splits = p.splits ∙ ap (λ (y : List (Result E Error)). p.skips ++ y) is;
  nothing = p.nothing;
  answer =
      λ rest. stand_one sets resolve b c e r resolves at rest
      ∙ ap (λ (y : List (Result A Error)). y ++ resolutions sets resolve c rest) one;
}

-- one that couldn't be read
stops_at_fault : {E A : Type 0} (sets : E → Option ℕ) (resolve : ℕ → E → Result (Option A) Error) (first b c : ℕ)
    (all l m : List (Result E Error)) (d : Error) → SkipsEntries sets resolve first b all l → l ≡ Err d ∷ m → c ≡ b
    → StopsAfter sets resolve first c all m (Err d)
stops_at_fault {E} {A} sets resolve first b c all l m d p is at = record {
  skips = p.skips;
  last = Err d;
  between = b;
  splits = p.splits ∙ ap (λ (y : List (Result E Error)). p.skips ++ y) is;
  nothing = p.nothing;
  answer = λ rest. ap (λ (k : ℕ). Err d ∷ resolutions sets resolve k rest) (sym at);
}

-- no further one
passes_same : {E A : Type 0} (sets : E → Option ℕ) (resolve : ℕ → E → Result (Option A) Error) (first b c : ℕ)
    (all l m : List (Result E Error)) → SkipsEntries sets resolve first b all l → l ≡ m → c ≡ b
    → SkipsEntries sets resolve first c all m
passes_same {E} {A} sets resolve first b c all l m p is at = record {
  skips = p.skips;
  splits = p.splits ∙ ap (λ (y : List (Result E Error)). p.skips ++ y) is;
  nothing = λ rest. p.nothing rest ∙ ap (λ (k : ℕ). resolutions sets resolve k rest) (sym at);
}

-- ---- along equal settings

resolves_as : {E R : Type 0} (resolve : Setting → ℕ → E → R) (s : Setting) (b : ℕ) (t : Resolution) (e : E) (r : R)
    → t.setting ≡ s → t.base ≡ b → resolve t.setting t.base e ≡ r → resolve s b e ≡ r
resolves_as {E} {R} resolve s b t e r same at is =
    ap (λ (u : Setting). resolve u b e) (sym same) ∙ ap (λ (d : ℕ). resolve t.setting d e) (sym at) ∙ is

leaves_base : {E : Type 0} (sets : Setting → E → Option ℕ) (s : Setting) (b c : ℕ) (t : Resolution) (e : E)
    → t.setting ≡ s → t.base ≡ b → c ≡ unwrap_or (sets t.setting e) t.base → c ≡ unwrap_or (sets s e) b
leaves_base {E} sets s b c t e same at is =
    is ∙ ap (λ (u : Setting). unwrap_or (sets u e) t.base) same ∙ ap (λ (d : ℕ). unwrap_or (sets s e) d) at

-- ---- lists

-- an entry e was read, between the states old and mid, and resolved to nothing, which left the state new
pub list_passes : {H E A : Type 0} (kind : ListKind H E A) (limit : ℕ) (first old mid new : RemainingList H) (e : E)
    → Skips kind limit first old → old.against.setting ≡ first.against.setting
    → entries_of kind limit old ≡ Ok e ∷ entries_of kind limit mid → mid.against ≡ old.against
    → kind.answer_of mid.against.setting mid.against.base e ≡ Ok None
    → entries_of kind limit new ≡ entries_of kind limit mid
    → new.against.base ≡ unwrap_or (kind.base_in mid.against.setting e) mid.against.base → Skips kind limit first new
list_passes kind limit first old mid new e p same is against none raw base =
    let setting : mid.against.setting ≡ first.against.setting = ap (λ (a : Resolution). a.setting) against ∙ same in
    let at : mid.against.base ≡ old.against.base = ap (λ (a : Resolution). a.base) against in
    passes_one (kind.base_in first.against.setting) (kind.answer_of first.against.setting) first.against.base
    old.against.base new.against.base
    (entries_of kind limit first) (entries_of kind limit old) (entries_of kind limit new) e p
    (is ∙ ap (λ l. Ok e ∷ l) (sym raw))
    (resolves_as kind.answer_of first.against.setting old.against.base mid.against e (Ok None) setting at none)
    (leaves_base kind.base_in first.against.setting old.against.base new.against.base mid.against e setting at base)

pub list_stops : {H E A : Type 0} (kind : ListKind H E A) (limit : ℕ) (first old mid new : RemainingList H) (e : E)
    (r : Result (Option A) Error) (x : Result A Error) → answer_list r ≡ x ∷ [] → Skips kind limit first old
    → old.against.setting ≡ first.against.setting
    → entries_of kind limit old ≡ Ok e ∷ entries_of kind limit mid → mid.against ≡ old.against
    → kind.answer_of mid.against.setting mid.against.base e ≡ r
    → entries_of kind limit new ≡ entries_of kind limit mid
    → new.against.base ≡ unwrap_or (kind.base_in mid.against.setting e) mid.against.base → Finds kind limit first new x
list_stops kind limit first old mid new e r x one p same is against resolves raw base =
    let setting : mid.against.setting ≡ first.against.setting = ap (λ (a : Resolution). a.setting) against ∙ same in
    let at : mid.against.base ≡ old.against.base = ap (λ (a : Resolution). a.base) against in
    stops_at (kind.base_in first.against.setting) (kind.answer_of first.against.setting) first.against.base
    old.against.base new.against.base
    (entries_of kind limit first) (entries_of kind limit old) (entries_of kind limit new) e r x p
    (is ∙ ap (λ l. Ok e ∷ l) (sym raw))
    (resolves_as kind.answer_of first.against.setting old.against.base mid.against e r setting at resolves)
    one
    (leaves_base kind.base_in first.against.setting old.against.base new.against.base mid.against e setting at base)

pub list_stops_at_fault : {H E A : Type 0} (kind : ListKind H E A) (limit : ℕ) (first old new : RemainingList H)
    (d : Error) → Skips kind limit first old
    → entries_of kind limit old ≡ Err d ∷ entries_of kind limit new → new.against ≡ old.against
    → Finds kind limit first new (Err d)
list_stops_at_fault kind limit first old new d p is same =
    stops_at_fault (kind.base_in first.against.setting) (kind.answer_of first.against.setting) first.against.base
    old.against.base new.against.base
    (entries_of kind limit first) (entries_of kind limit old) (entries_of kind limit new) d
    p is (ap (λ (a : Resolution). a.base) same)

pub skips_all : {H E A : Type 0} (kind : ListKind H E A) (limit : ℕ) (first old new : RemainingList H)
    → Skips kind limit first old
    → entries_of kind limit old ≡ entries_of kind limit new → new.against ≡ old.against → Skips kind limit first new
skips_all kind limit first old new p is same =
    passes_same (kind.base_in first.against.setting) (kind.answer_of first.against.setting) first.against.base
    old.against.base new.against.base
    (entries_of kind limit first) (entries_of kind limit old) (entries_of kind limit new)
    p is (ap (λ (a : Resolution). a.base) same)
