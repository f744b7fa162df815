-- What an iterator over entries answers next, by what it reads first.
use Rattle.std.proofs.Common.{◌≡◌, ℕ, ◌≤◌, arith, Bool, true, false, cond, eqb, List, [], ◌∷◌, length, Option, Some, None, Result, Ok, Err, sym, ◌∙◌, ap}
use Rattle.gimli_core_readers.specs.Error.{Error}
use Rattle.gimli_core_readers.specs.View.{View, bytes_left}
use Rattle.gimli_core_readers.specs.Parsers.{Parser}
use Rattle.gimli_core_readers.specs.Repetition.{listing_in, items_within, next_item, answers_of}
use Rattle.gimli_core_readers.proofs.StepSizes.{SomeBelow, SomeBelow-cond, SomeBelow-None}
use Rattle.gimli_core_readers.proofs.Listings.{Shrinks, listing_next}
use Rattle.gimli_units_lists.specs.ListEntryFields.{entry_or_end}
use Rattle.gimli_units_lists.specs.Lists.{TakesBytes, entries_from}

-- entries that take a byte each
pub record Takes {A : Type 0} (p : Parser (Option A)) : Type 0 where
  pub some : (v : View) (n : ℕ) → bytes_left v ≤ n → SomeBelow bytes_left n (p v)

pub shrinks : {A : Type 0} {p : Parser (Option A)} → Takes p → Shrinks bytes_left (entry_or_end p)
shrinks {A} {p} h =
    record { smaller = λ v n le. SomeBelow-cond (eqb (length v.bytes) 0) SomeBelow-None (h.some v n le) }

pub takes : {A : Type 0} {p : Parser (Option A)} → TakesBytes p → Takes p
takes h = record { some = λ v n le. record { left = λ x w e. let lt = h v w x e in omega arith } }

pub takes_bytes : {A : Type 0} {p : Parser (Option A)} → Takes p → TakesBytes p
takes_bytes h v w x e = (h.some v (bytes_left v) (omega arith)).left x w e

-- by what the entry here is
pub step : {A : Type 0} {p : Parser (Option A)} → Takes p → (v : View) (r : Result (Option A × View) Error)
    → entry_or_end p v ≡ r → entries_from p v ≡ answers_of (next_item r (listing_in bytes_left (entry_or_end p)))
step {A} {p} h v r e =
    ap answers_of (listing_next (shrinks h) v)
    ∙ ap (λ x. answers_of (next_item x (listing_in bytes_left (entry_or_end p)))) e

pub entry_here : {A : Type 0} (p : Parser (Option A)) (v : View) (r : Result (Option A × View) Error)
    → (eqb (length v.bytes) 0) ≡ false → p v ≡ r → entry_or_end p v ≡ r
entry_here {A} p v r some e = ap (λ (b : Bool). cond b (none_left v) (p v)) some ∙ e
  where
    none_left : View → Result (Option A × View) Error
    none_left w = Ok (None, w)

-- no byte is left, whatever entries take
pub no_more : {A : Type 0} (p : Parser (Option A)) (v : View) → (eqb (length v.bytes) 0) ≡ true → entries_from p v ≡ []
unfolding listing_in items_within
no_more {A} p v none =
    ap (λ (b : Bool). answers_of (next_item (cond b nothing (p v)) (items_within (bytes_left v) (entry_or_end p)))) none
  where
    nothing : Result (Option A × View) Error
    nothing = Ok (None, v)

-- no byte is left
pub come_none : {A : Type 0} {p : Parser (Option A)} → Takes p → (v : View) → (eqb (length v.bytes) 0) ≡ true
    → entries_from p v ≡ []
come_none {A} {p} h v none = step h v (none_left v) (ap (λ (b : Bool). cond b (none_left v) (p v)) none)
  where
    none_left : View → Result (Option A × View) Error
    none_left w = Ok (None, w)

-- an entry
pub come_item : {A : Type 0} {p : Parser (Option A)} → Takes p → (v w : View) (x : A) → (eqb (length v.bytes) 0) ≡ false
    → p v ≡ Ok (Some x, w) → entries_from p v ≡ Ok x ∷ entries_from p w
come_item {p = p} h v w x some e = step h v (Ok (Some x, w)) (entry_here p v (Ok (Some x, w)) some e)

-- the end of the list
pub come_end : {A : Type 0} {p : Parser (Option A)} → Takes p → (v w : View) → (eqb (length v.bytes) 0) ≡ false
    → p v ≡ Ok (None, w) → entries_from p v ≡ []
come_end {p = p} h v w some e = step h v (Ok (None, w)) (entry_here p v (Ok (None, w)) some e)

-- a fault
pub come_fault : {A : Type 0} {p : Parser (Option A)} → Takes p → (v w : View) (e : Error)
    → (eqb (length v.bytes) 0) ≡ false → p v ≡ Err e → (eqb (length w.bytes) 0) ≡ true
    → entries_from p v ≡ Err e ∷ entries_from p w
come_fault {A} {p} h v w e some is none =
    step h v (Err e) (entry_here p v (Err e) some is)
    ∙ ap (λ (rest : List (Result A Error)). Err e ∷ rest) (sym (come_none h w none))
