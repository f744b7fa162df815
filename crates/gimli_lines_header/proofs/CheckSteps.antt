-- Steps whose value is dropped: how loops that check items go on and end.
use Rattle.std.proofs.Common.{◌≡◌, ℕ, zero, suc, ◌+◌, ◌-◌, ◌<◌, ◌≤◌, Bool, true, false, List, ◌∷◌, Option, Some, None, Result, Ok, Err, refl, sym, ◌∙◌, ap, arith}
use Rattle.std.specs.Option.{is_some}
use Rattle.std.specs.Result.{IsErrAnd}
use Rattle.gimli_units_headers.specs.Error.{Error}
use Rattle.gimli_units_headers.specs.Calls.{ReturnsAs}
use Rattle.gimli_units_headers.specs.Parsers.{Step, proceed, give, map_value}
use Rattle.gimli_units_headers.specs.Repetition.{Listing, listing_in, next_item, whole_of, all_of, times}
use Rattle.gimli_units_headers.proofs.StepParts.{value_is, state_is, read}
use Rattle.gimli_units_headers.proofs.Listings.{Shrinks, listing_next}
use Rattle.gimli_lines_header.specs.Checks.{check}

-- a state, or a refusal
abbrev pub left_at : {S : Type 0} → S → Result ((Unit {0}) × S) Error
left_at s = Ok (tt {0}, s)

-- what is checked is read
pub checked_read : {S A : Type 0} (r : Result (A × S) Error) (w : S) → proceed r (λ _. give (tt {0})) ≡ left_at w
    → (x : A) × (r ≡ Ok (x, w))
checked_read {S} {A} (Ok r) w e = (r.0, ap (λ (s : S). read r.0 s) (state_is (tt {0}) (tt {0}) r.1 w e))
checked_read (Err d) w e = absurd cc

-- what is refused by a check is refused
pub refused_read : {S A B : Type 0} (f : A → B) (r : Result (A × S) Error) (d : Error)
    → proceed r (λ x. give (f x)) ≡ Err d → r ≡ Err d
refused_read f (Ok r) d e = absurd cc
refused_read {S} {A} f (Err c) d e = let is : c ≡ d = cc in ap (λ (x : Error). refusal x) is
  where
    refusal : Error → Result (A × S) Error
    refusal x = Err x

-- a fault that is handed on
pub returns_fault : {A B : Type 0} (see : A → B) (r : Result A Error) (meaning : Result B Error) (d : Error)
    → IsErrAnd r (λ e. e ≡ d) → meaning ≡ Err d → ReturnsAs see r meaning
returns_fault see (Ok x) meaning d h k = absurd h
returns_fault {A} {B} see (Err e) meaning d h k = k ∙ ap (λ (x : Error). refusal x) (sym h)
  where
    refusal : Error → Result B Error
    refusal x = Err x

-- ---- items up to one that isn't there

-- an item or the end, where that alone is known
some_read : {S A : Type 0} (r : Result (Option A × S) Error) (b : Bool) (w : S) → b ≡ true
    → proceed r (λ o. give (is_some o)) ≡ read b w → (x : A) × (r ≡ Ok (Some x, w))
some_read (Ok (None, s)) b w is e =
    let no : false ≡ true = value_is false b s w e ∙ is in absurd cc
some_read {S} {A} (Ok (Some x, s)) b w is e =
    (x, ap (λ (t : S). read (Some x) t) (state_is true b s w e))
some_read (Err d) b w is e = absurd cc

none_read : {S A : Type 0} (r : Result (Option A × S) Error) (b : Bool) (w : S) → b ≡ false
    → proceed r (λ o. give (is_some o)) ≡ read b w → r ≡ Ok (None, w)
none_read {S} {A} (Ok (None, s)) b w is e = ap (λ (t : S). read none_of t) (state_is false b s w e)
  where
    none_of : Option A
    none_of = None
none_read (Ok (Some x, s)) b w is e =
    let no : true ≡ false = value_is true b s w e ∙ is in absurd cc
none_read (Err d) b w is e = absurd cc

-- how a listing ends
abbrev pub ending_of : {S A : Type 0} → (S → ℕ) → Step S (Option A) → S → Result S Error
ending_of size p s = (listing_in size p s).ending

-- a further item is checked, in a listing that began at s
pub ending_next : {S A : Type 0} {size : S → ℕ} {p : Step S (Option A)} → Shrinks size p → (s t u : S) (b : Bool)
    → b ≡ true → map_value is_some p t ≡ read b u → ending_of size p t ≡ ending_of size p s
    → ending_of size p u ≡ ending_of size p s
ending_next {S} {A} {size} {p} h s t u b is e same =
    let some = some_read (p t) b u is e in
    sym (ap (λ (l : Listing S A). l.ending) (listing_next h t ∙ ap (λ r. next_item r (listing_in size p)) some.1))
    ∙ same

pub checked_smaller : {S A : Type 0} {size : S → ℕ} {p : Step S (Option A)} → Shrinks size p → (s t : S) (b : Bool)
    → b ≡ true → map_value is_some p s ≡ read b t → size t < size s
checked_smaller {size = size} {p = p} h s t b is e =
    let some = some_read (p s) b t is e in (h.smaller s (size s) (omega arith)).left some.0 t some.1

-- a state as an ending
abbrev ends_at : {S : Type 0} → S → Result S Error
ends_at s = Ok s

-- no item is left
pub check_all_end : {S A : Type 0} {size : S → ℕ} {p : Step S (Option A)} → Shrinks size p → (s t u : S) (b : Bool)
    → b ≡ false → map_value is_some p t ≡ read b u → ending_of size p t ≡ ending_of size p s
    → check (all_of size p) s ≡ left_at u
check_all_end {S} {A} {size} {p} h s t u b is e same =
    let at : ending_of size p s ≡ ends_at u =
    sym same ∙ ap (λ (l : Listing S A). l.ending) (listing_next h t ∙ ap (λ r. next_item r (listing_in size p))
    (none_read (p t) b u is e)) in
    ap (λ (r : Result S Error). proceed (whole_of (listing_in size p s).items r) (λ _. give (tt {0}))) at

-- the next item can't be read
pub check_all_fault : {S A : Type 0} {size : S → ℕ} {p : Step S (Option A)} → Shrinks size p → (s t : S) (d : Error)
    → map_value is_some p t ≡ Err d → ending_of size p t ≡ ending_of size p s → check (all_of size p) s ≡ Err d
check_all_fault {S} {A} {size} {p} h s t d e same =
    let at : ending_of size p s ≡ Err d =
    sym same ∙ ap (λ (l : Listing S A). l.ending) (listing_next h t ∙ ap (λ r. next_item r (listing_in size p))
    (refused_read is_some (p t) d e)) in
    ap (λ (r : Result S Error). proceed (whole_of (listing_in size p s).items r) (λ _. give (tt {0}))) at

-- ---- count items, of which i are checked

-- an item in front of others is dropped with them
pub dropped_first : {S A : Type 0} (x : A) (r : Result (List A × S) Error)
    → proceed (proceed r (λ xs. give (x ∷ xs))) (λ _. give (tt {0})) ≡ proceed r (λ _. give (tt {0}))
dropped_first x (Ok r) = refl
dropped_first x (Err d) = refl

-- none is checked yet
pub count_begins : {S A : Type 0} (p : Step S A) (count : ℕ) (s : S)
    → check (times (count - 0) p) s ≡ check (times count p) s
count_begins p count s =
    let all : count - 0 ≡ count = omega arith in ap (λ (n : ℕ). check (times n p) s) all

-- none is left
pub check_times_none : {S A : Type 0} (p : Step S A) (s : S) → check (times 0 p) s ≡ left_at s
unfolding times
check_times_none p s = refl

pub check_times_next : {S A : Type 0} (p : Step S A) (n : ℕ) (s t : S) → check p s ≡ left_at t
    → check (times (suc n) p) s ≡ check (times n p) t
unfolding times
check_times_next {S} {A} p n s t e =
    let first = checked_read (p s) t e in
    ap (λ (r : Result (A × S) Error). proceed (proceed r (λ x u. proceed (times n p u) (λ xs. give (x ∷ xs))))
    (λ _. give (tt {0}))) first.1
    ∙ dropped_first first.0 (times n p t)

pub check_times_refused : {S A : Type 0} (p : Step S A) (n : ℕ) (s : S) (d : Error) → check p s ≡ Err d
    → check (times (suc n) p) s ≡ Err d
unfolding times
check_times_refused {S} {A} p n s d e =
    ap (λ (r : Result (A × S) Error). proceed (proceed r (λ x u. proceed (times n p u) (λ xs. give (x ∷ xs))))
    (λ _. give (tt {0}))) (refused_read (λ _. tt {0}) (p s) d e)

-- a further item is checked
pub count_checked : {S A : Type 0} (p : Step S A) (count i : ℕ) (s t : S) (all : Result ((Unit {0}) × S) Error)
    → i < count → check p s ≡ left_at t → check (times (count - i) p) s ≡ all
    → check (times (count - (i + 1)) p) t ≡ all
count_checked {S} {A} p count i s t all more e same =
    let left : count - i ≡ suc (count - (i + 1)) = omega arith in
    sym (check_times_next p (count - (i + 1)) s t e) ∙ ap (λ (n : ℕ). check (times n p) s) (sym left) ∙ same

-- an item can't be read
pub count_refused : {S A : Type 0} (p : Step S A) (count i : ℕ) (s : S) (d : Error)
    (all : Result ((Unit {0}) × S) Error) → i < count → check p s ≡ Err d → check (times (count - i) p) s ≡ all
    → all ≡ Err d
count_refused p count i s d all more e same =
    let left : count - i ≡ suc (count - (i + 1)) = omega arith in
    sym same ∙ ap (λ (n : ℕ). check (times n p) s) left ∙ check_times_refused p (count - (i + 1)) s d e

-- all are checked
pub count_over : {S A : Type 0} (p : Step S A) (count i : ℕ) (s : S) (all : Result ((Unit {0}) × S) Error)
    → count ≤ i → check (times (count - i) p) s ≡ all → all ≡ left_at s
count_over p count i s all over same =
    let none : count - i ≡ 0 = omega arith in
    sym same ∙ ap (λ (n : ℕ). check (times n p) s) none ∙ check_times_none p s

-- items that are refused alike
abbrev unchecked : {S A : Type 0} → Result (A × S) Error → Result ((Unit {0}) × S) Error
unchecked r = proceed r (λ _. give (tt {0}))

alike_by : {S A B : Type 0} (p : Step S A) (q : Step S B) (n : ℕ) (s : S)
    → ((t : S) → check (times n p) t ≡ check (times n q) t) → (r : Result (A × S) Error) (u : Result (B × S) Error)
    → p s ≡ r → q s ≡ u → unchecked r ≡ unchecked u → check (times (suc n) p) s ≡ check (times (suc n) q) s
alike_by {S} {A} {B} p q n s others (Ok r) (Ok u) is_p is_q same =
    check_times_next p n s r.1 (ap (λ (a : Result (A × S) Error). unchecked a) is_p)
    ∙ others r.1
    ∙ ap (λ (t : S). check (times n q) t) (state_is (tt {0}) (tt {0}) r.1 u.1 same)
    ∙ sym (check_times_next q n s u.1 (ap (λ (a : Result (B × S) Error). unchecked a) is_q))
alike_by p q n s others (Ok r) (Err d) is_p is_q same = absurd cc
alike_by p q n s others (Err c) (Ok u) is_p is_q same = absurd cc
alike_by {S} {A} {B} p q n s others (Err c) (Err d) is_p is_q same =
    check_times_refused p n s c (ap (λ (a : Result (A × S) Error). unchecked a) is_p)
    ∙ same
    ∙ sym (check_times_refused q n s d (ap (λ (a : Result (B × S) Error). unchecked a) is_q))

pub check_times_alike : {S A B : Type 0} (p : Step S A) (q : Step S B) → ((s : S) → check p s ≡ check q s) → (n : ℕ)
    (s : S) → check (times n p) s ≡ check (times n q) s
unfolding times
check_times_alike p q alike zero s = refl
check_times_alike p q alike (suc n) s =
    alike_by p q n s (λ t. check_times_alike p q alike n t) (p s) (q s) refl refl (alike s)

-- what is read is checked alone, where it changes nothing
pub checked_same : {S A B : Type 0} (r : Result (A × S) Error) (f : A → B) (y : B) (w : S) → ((x : A) → f x ≡ y)
    → proceed r (λ _. give (tt {0})) ≡ left_at w → proceed r (λ x. give (f x)) ≡ read y w
checked_same {S} {A} {B} r f y w same h =
    let p = checked_read r w h in
    ap (λ (q : Result (A × S) Error). proceed q (λ x. give (f x))) p.1 ∙ ap (λ (z : B). read z w) (same p.0)

pub refused_same : {S A B : Type 0} (r : Result (A × S) Error) (f : A → B) (d : Error)
    → proceed r (λ _. give (tt {0})) ≡ Err d → proceed r (λ x. give (f x)) ≡ Err d
refused_same {S} {A} {B} r f d h =
    ap (λ (q : Result (A × S) Error). proceed q (λ x. give (f x))) (refused_read (λ _. tt {0}) r d h)

-- either answer
pub ruleset same_answers = (checked_same, refused_same)
