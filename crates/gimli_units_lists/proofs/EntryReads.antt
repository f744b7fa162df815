-- What entries leave of the bytes of their list.
use Rattle.std.proofs.Common.{◌≡◌, ◌≢◌, ◌⊎◌, ℕ, suc, Option, Some, None, Result, Ok, Err, refl, sym, ◌∙◌, ap, subst}
use Rattle.std.specs.Result.{IsErrAnd}
use Rattle.gimli_core_readers.specs.Error.{Error}
use Rattle.gimli_core_readers.specs.Error.TheVariants.{Memory}
use Rattle.gimli_core_readers.specs.View.{View, bytes_left}
use Rattle.gimli_core_readers.specs.Parsers.{Parser}
use Rattle.gimli_units_lists.specs.Lists.{ListKind, RemainingList, ReadsEntry, ReadsSome, EndsAtFault, LeavesBytes}

-- none yet
pub reads_none : {E : Type 0} (p : Parser (Option E)) (v : View) → ReadsSome p v v
reads_none p v = (0, refl)

-- one more, by the same parser, which leaves an equal place
pub reads_one : {E : Type 0} (p q : Parser (Option E)) (v place w new : View) (e : E) → ReadsSome p v place → q ≡ p
    → q place ≡ Ok (Some e, w) → new ≡ w → ReadsSome p v new
reads_one {E} p q v place w new e h same is at =
    let read_it : p place ≡ Ok (Some e, w) = ap (λ (f : Parser (Option E)). f place) (sym same) ∙ is in
    (suc h.0, (place, e, h.1, subst (λ (u : View). p place ≡ Ok (Some e, u)) (sym at) read_it))

-- an entry was answered
pub item_is_read : {E B : Type 0} (see : B → E) (p : Parser (Option E)) (o : Option B) (x : B) (old new : View)
    → o ≡ Some x → ReadsEntry see p (Ok o) old new → p old ≡ Ok (Some (see x), new)
item_is_read see p None x old new is h = absurd cc
item_is_read {E} {B} see p (Some y) x old new is h =
    let same : y ≡ x = cc in subst (λ (z : B). p old ≡ Ok (Some (see z), new)) same h

-- the refusal d is handed on
pub refusal_leaves : {E B : Type 0} (p : Parser (Option E)) (r : Result (Option B) Error) (old new : View) (d : Error)
    → IsErrAnd r (λ e. e ≡ d) → (d ≢ Memory → ReadsSome p old new ⊎ EndsAtFault p d old new)
    → (d ≡ Memory → ReadsSome p old new) → LeavesBytes p r old new
refusal_leaves p (Ok x) old new d h k m = absurd h
refusal_leaves p (Err e) old new d h k m = (
  (λ ne. subst (λ (x : Error). ReadsSome p old new ⊎ EndsAtFault p x old new) (sym h) (k (λ is. ne (h ∙ is)))),
  (λ is. m (sym h ∙ is)),
)

-- ---- lists: a loop that began at first is at old

-- an entry was answered, and resolved, which left the place
pub list_reads : {H E A B : Type 0} (kind : ListKind H E A) (limit : ℕ) (see : B → E)
    (first old mid new : RemainingList H) (o : Option B) (x : B)
    → ReadsSome (kind.entry limit first.how) first.rest old.rest → old.how ≡ first.how → o ≡ Some x
    → ReadsEntry see (kind.entry limit old.how) (Ok o) old.rest mid.rest → new.rest ≡ mid.rest
    → ReadsSome (kind.entry limit first.how) first.rest new.rest
list_reads kind limit see first old mid new o x h how is read_it at =
    reads_one (kind.entry limit first.how) (kind.entry limit old.how) first.rest old.rest mid.rest new.rest (see x) h
    (ap (kind.entry limit) how) (item_is_read see (kind.entry limit old.how) o x old.rest mid.rest is read_it) at

-- an entry couldn't be read
pub list_ends_at_fault : {H E A : Type 0} (kind : ListKind H E A) (limit : ℕ) (d : Error)
    (first old new : RemainingList H) → ReadsSome (kind.entry limit first.how) first.rest old.rest
    → old.how ≡ first.how → (kind.entry limit old.how old.rest ≡ Err d) × (bytes_left new.rest ≡ 0)
    → EndsAtFault (kind.entry limit first.how) d first.rest new.rest
list_ends_at_fault {H} {E} kind limit d first old new h how is =
    let parse : H → Parser (Option E) = kind.entry limit in
    (old.rest, h, ap (λ (at : H). parse at old.rest) (sym how) ∙ is.0, is.1)
