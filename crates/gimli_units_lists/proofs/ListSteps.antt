-- How what is to come of a list goes on by an entry, and ends.
use Rattle.std.proofs.Common.{◌≡◌, ℕ, [], ◌∷◌, ◌++◌, unwrap_or, Option, Result, Ok, Err, sym, ◌∙◌, ap}
use Rattle.gimli_core_readers.specs.Error.{Error}
use Rattle.gimli_units_lists.specs.ListResolutions.{answer_list, resolutions}
use Rattle.gimli_units_lists.specs.Lists.{ListKind, Resolution, RemainingList, entries_from, entries_of, answers_to_come}
use Rattle.gimli_units_lists.proofs.ListBaseLemmas.{resolutions_next}

-- an entry e was read, between the states old and mid, and resolved to r, which left the state new
pub list_step : {H E A : Type 0} (kind : ListKind H E A) (limit : ℕ) (old mid new : RemainingList H) (e : E)
    (r : Result (Option A) Error)
    → entries_of kind limit old ≡ Ok e ∷ entries_of kind limit mid → mid.against ≡ old.against
    → kind.answer_of mid.against.setting mid.against.base e ≡ r → entries_of kind limit new ≡ entries_of kind limit mid
    → new.against.setting ≡ mid.against.setting
    → new.against.base ≡ unwrap_or (kind.base_in mid.against.setting e) mid.against.base
    → answers_to_come kind limit old ≡ answer_list r ++ answers_to_come kind limit new
list_step {H} {E} {A} kind limit old mid new e r is same resolves raw setting base =
    ap (λ (a : Resolution). resolutions (kind.base_in a.setting) (kind.answer_of a.setting) a.base
    (entries_of kind limit old)) (sym same)
    ∙ resolutions_next kind.base_in kind.answer_of mid.against.setting new.against.setting mid.against.base
    new.against.base (entries_of kind limit old) (entries_of kind limit new) e
    (is ∙ ap (λ l. Ok e ∷ l) (sym raw)) setting base
    ∙ ap (λ (x : Result (Option A) Error). answer_list x ++ answers_to_come kind limit new) resolves

-- the list ended
pub list_end : {H E A : Type 0} (kind : ListKind H E A) (limit : ℕ) (old : RemainingList H)
    → entries_of kind limit old ≡ [] → answers_to_come kind limit old ≡ []
list_end kind limit old is =
    ap (resolutions (kind.base_in old.against.setting) (kind.answer_of old.against.setting) old.against.base) is

-- an entry couldn't be read
pub list_fault : {H E A : Type 0} (kind : ListKind H E A) (limit : ℕ) (old new : RemainingList H) (d : Error)
    → entries_of kind limit old ≡ Err d ∷ entries_of kind limit new → new.against ≡ old.against
    → answers_to_come kind limit old ≡ Err d ∷ answers_to_come kind limit new
list_fault kind limit old new d is same =
    ap (resolutions (kind.base_in old.against.setting) (kind.answer_of old.against.setting) old.against.base) is
    ∙ ap (λ (a : Resolution). Err d
    ∷ resolutions (kind.base_in a.setting) (kind.answer_of a.setting) a.base (entries_of kind limit new))
    (sym same)

-- nothing was read
pub list_same : {H E A : Type 0} (kind : ListKind H E A) (limit : ℕ) (old new : RemainingList H)
    → entries_of kind limit new ≡ entries_of kind limit old → new.against ≡ old.against
    → answers_to_come kind limit new ≡ answers_to_come kind limit old
list_same kind limit old new is same =
    ap (λ (a : Resolution). resolutions (kind.base_in a.setting) (kind.answer_of a.setting) a.base
    (entries_of kind limit new)) same
    ∙ ap (resolutions (kind.base_in old.against.setting) (kind.answer_of old.against.setting) old.against.base) is

-- equal places have the same entries
pub same_entries : {H E A : Type 0} (kind : ListKind H E A) (limit : ℕ) (old new : RemainingList H) → new.how ≡ old.how
    → new.rest ≡ old.rest → entries_of kind limit new ≡ entries_of kind limit old
same_entries {H} kind limit old new how rest =
    ap (λ (h : H). entries_from (kind.entry limit h) new.rest) how
    ∙ ap (entries_from (kind.entry limit old.how)) rest
