-- What is read stays where bytes are appended, unless the end of the bytes showed in it.
use Rattle.std.proofs.Common.{◌≡◌, ◌≢◌, ℕ, zero, suc, ◌+◌, ◌<◌, ◌≤◌, Bool, true, false, cond, List, [], ◌∷◌, ◌++◌, length, Option, Some, None, Result, Ok, Err, refl, sym, ap, ◌∙◌, inl, inr, arith}
use Rattle.std.specs.Prelude.{nat_lt, ◌^◌}
use Rattle.std.proofs.lemmas.Bool.{cases_lt, lt-ltb, le-ltb}
use Rattle.std.proofs.lemmas.List.{take-append-le, drop-append-le, length-append}
use Rattle.gimli_core_readers.proofs.LebStringFits.{signed_fits}
use Rattle.gimli_core_readers.specs.ReaderOffsetId.{ReaderOffsetId}
use Rattle.gimli_core_readers.specs.Error.{Error}
use Rattle.gimli_core_readers.specs.Error.TheVariants.{UnexpectedEof, BadUnsignedLeb128, BadSignedLeb128}
use Rattle.gimli_core_readers.specs.View.{View, bytes_left, after}
use Rattle.gimli_core_readers.specs.Parsers.{Step, proceed, skip}
use Rattle.gimli_core_readers.specs.Repetition.{Listing, prepend, next_item, item_or_end, listing_in, whole, whole_of}
use Rattle.gimli_core_readers.proofs.StepParts.{read}
use Rattle.gimli_core_readers.proofs.Listings.{Shrinks, listing_next, item_smaller}
use Rattle.gimli_core_readers.specs.Fault.{Fault}
use Rattle.gimli_core_readers.specs.Fault.TheVariants.{Cut, Bad}
use Rattle.gimli_core_readers.specs.Leb128.{bounded_string, unsigned_number, unsigned_of, unsigned_at, signed_at}
use Rattle.gimli_core_readers.specs.NumberParsers.{fixed, number_and_rest, unsigned, unsigned_16, signed}
use Rattle.gimli_core_readers.proofs.LebStringLaws.{unsigned_ignores_rest, signed_ignores_rest}
use Rattle.gimli_core_readers.proofs.NumberReadSizes.{judged_fits_in}
use Rattle.gimli_core_abbrev.specs.TableLaws.{with_more_bytes}

-- ---- answers

-- a read didn't meet the end of the bytes
abbrev pub NotCut : {A : Type 0} → Result A Error → Type 0
NotCut r = (id : ReaderOffsetId) → r ≢ Err (UnexpectedEof id)

-- the same value, with the bytes after what is left
abbrev pub with_more : {A : Type 0} → List ℕ → Result (A × View) Error → Result (A × View) Error
with_more more (Ok r) = Ok (r.0, with_more_bytes more r.1)
with_more more (Err e) = Err e

-- the first answer stays as the second one
pub record Stays {A : Type 0} (more : List ℕ) (r s : Result (A × View) Error) : Type 0 where
  pub same : NotCut r → s ≡ with_more more r

pub Stays-Ok : {A : Type 0} {more : List ℕ} {x : A} {v : View} → Stays more (Ok (x, v)) (Ok (x, with_more_bytes more v))
Stays-Ok = record { same = λ _. refl }

pub Stays-Err : {A : Type 0} {more : List ℕ} {e : Error} → Stays {A = A} more (Err e) (Err e)
Stays-Err = record { same = λ _. refl }

-- the refusal, whatever was to be read
abbrev refusal : {A : Type 0} → Error → Result A Error
refusal e = Err e

pub NotCut-Err : {A B : Type 0} (e : Error) → NotCut {A = A} (Err e) → NotCut {A = B} (Err e)
NotCut-Err {A} e uncut = λ id is. uncut id (let same : e ≡ UnexpectedEof id = cc in ap (refusal {A = A}) same)

proceed-stays : {A B : Type 0} {more : List ℕ} (r s : Result (A × View) Error) (f : A → Step View B)
    → Stays more r s → ((x : A) (v : View) → Stays more (f x v) (f x (with_more_bytes more v)))
    → Stays more (proceed r f) (proceed s f)
proceed-stays {A} {B} {more} (Ok r) s f h k = record {
  same = λ uncut.
      let is : s ≡ read r.0 (with_more_bytes more r.1) = h.same (λ id e. cc) in
      ap (λ (t : Result (A × View) Error). proceed t f) is ∙ (k r.0 r.1).same uncut;
}
proceed-stays {A} {B} {more} (Err d) s f h k = record {
  same = λ uncut. let is : s ≡ Err d = h.same (NotCut-Err d uncut) in ap (λ (t : Result (A × View) Error). proceed t
      f) is;
}

pub Stays-proceed : {A B : Type 0} {more : List ℕ} {r s : Result (A × View) Error} {f : A → Step View B}
    → Stays more r s → ((x : A) (v : View) → Stays more (f x v) (f x (with_more_bytes more v)))
    → Stays more (proceed r f) (proceed s f)
Stays-proceed {r = r} {s = s} {f = f} h k = proceed-stays r s f h k

pub Stays-cond : {A : Type 0} {more : List ℕ} (b : Bool) {p q s t : Result (A × View) Error} → Stays more p s
    → Stays more q t → Stays more (cond b p q) (cond b s t)
Stays-cond {more = more} b {p = p} {q = q} {s = s} {t = t} h k =
    elim b as (λ v. Stays more (cond v p q) (cond v s t)) [ true ↦ h | false ↦ k ]

-- ---- bytes

pub after-more : (n : ℕ) (v : View) (more : List ℕ) → n ≤ length v.bytes
    → after n (with_more_bytes more v) ≡ with_more_bytes more (after n v)
after-more n v more fits =
    ap (λ (bs : List ℕ). record { bytes = bs; is_big = v.is_big; first = v.first + n })
    (drop-append-le n v.bytes more fits)

pub Stays-skip : {more : List ℕ} (n : ℕ) (v : View) → Stays more (skip n v) (skip n (with_more_bytes more v))
Stays-skip {more} n v = elim (cases_lt (length v.bytes) n) [
  | inl short ↦ rw (lt-ltb (length v.bytes) n short)
      (record { same = λ uncut. absurd (uncut (record { 0 = v.first }) refl) })
  | inr long ↦ rw (
    le-ltb (length v.bytes) n long,
    le-ltb (length (v.bytes ++ more)) n
        (omega (arith, length-append v.bytes more)),
    after-more n v more long,
  ) Stays-Ok
]

pub Stays-fixed : {more : List ℕ} (n : ℕ) (v : View) → Stays more (fixed n v) (fixed n (with_more_bytes more v))
unfolding fixed
Stays-fixed {more} n v = elim (cases_lt (length v.bytes) n) [
  | inl short ↦ rw (lt-ltb (length v.bytes) n short)
      (record { same = λ uncut. absurd (uncut (record { 0 = v.first }) refl) })
  | inr long ↦ rw (
    le-ltb (length v.bytes) n long,
    le-ltb (length (v.bytes ++ more)) n
        (omega (arith, length-append v.bytes more)),
    after-more n v more long,
    take-append-le n v.bytes more long,
  )
      Stays-Ok
]

-- ---- LEB128

abbrev value_and_count : {A : Type 0} → A → ℕ → Result (A × ℕ) Fault
value_and_count x k = Ok (x, k)

length_is : {A : Type 0} (x y : A) (m k : ℕ) → value_and_count x m ≡ value_and_count y k → m ≡ k
length_is {A} x y m k e = let is : (x, m) ≡ (y, k) = cc in ap (λ (p : A × ℕ). p.1) is

pub unsigned_fits : (bound limit : ℕ) (bytes : List ℕ) (x k : ℕ) → unsigned_at limit bound bytes ≡ Ok (x, k)
    → k ≤ length bytes
unsigned_fits bound limit bytes x k e = judgement (bounded_string limit bytes) refl e
  where
    judgement : (r : Result (List ℕ) Fault) → bounded_string limit bytes ≡ r → unsigned_of bound r ≡ value_and_count x k
        → k ≤ length bytes
    judgement (Err fault) is h = absurd cc
    judgement (Ok s) is h = cases (nat_lt (unsigned_number s) bound) h
      where
        cases : (b : Bool) → cond b (value_and_count (unsigned_number s) (length s)) (Err Bad) ≡ value_and_count x k
            → k ≤ length bytes
        cases true g = rw (← length_is (unsigned_number s) x (length s) k g) (judged_fits_in limit bytes s is).fits
        cases false g = absurd cc

rest-stays : {A : Type 0} {more : List ℕ} (bad : Error) (v : View) (r s : Result (A × ℕ) Fault)
    → ((x : A) (k : ℕ) → r ≡ Ok (x, k) → k ≤ length v.bytes) → (r ≢ Err Cut → s ≡ r)
    → Stays more (number_and_rest bad v r) (number_and_rest bad (with_more_bytes more v) s)
rest-stays {A} {more} bad v (Ok found) s fits not_cut =
    rw (not_cut (λ e. cc), after-more found.1 v more (fits found.0 found.1 refl)) Stays-Ok
rest-stays bad v (Err Cut) s fits not_cut =
    record { same = λ uncut. absurd (uncut (record { 0 = v.first + length v.bytes }) refl) }
rest-stays bad v (Err Bad) s fits not_cut = rw (not_cut (λ e. cc)) Stays-Err

pub Stays-unsigned : {more : List ℕ} (v : View) → Stays more (unsigned v) (unsigned (with_more_bytes more v))
unfolding unsigned
Stays-unsigned {more} v =
    rest-stays BadUnsignedLeb128 v (unsigned_at 10 (2 ^ 64) v.bytes) (unsigned_at 10 (2 ^ 64) (v.bytes ++ more))
    (unsigned_fits (2 ^ 64) 10 v.bytes) (unsigned_ignores_rest 10 (2 ^ 64) v.bytes more)

pub Stays-unsigned_16 : {more : List ℕ} (v : View) → Stays more (unsigned_16 v) (unsigned_16 (with_more_bytes more v))
unfolding unsigned_16
Stays-unsigned_16 {more} v =
    rest-stays BadUnsignedLeb128 v (unsigned_at 3 (2 ^ 16) v.bytes) (unsigned_at 3 (2 ^ 16) (v.bytes ++ more))
    (unsigned_fits (2 ^ 16) 3 v.bytes) (unsigned_ignores_rest 3 (2 ^ 16) v.bytes more)

pub Stays-signed : {more : List ℕ} (v : View) → Stays more (signed v) (signed (with_more_bytes more v))
unfolding signed
Stays-signed {more} v =
    rest-stays BadSignedLeb128 v (signed_at v.bytes) (signed_at (v.bytes ++ more)) (signed_fits v.bytes)
    (signed_ignores_rest v.bytes more)

-- the facts above, for `search`
pub ruleset stays = (
  Stays-Ok,
  Stays-Err,
  Stays-proceed,
  Stays-cond,
  Stays-skip,
  Stays-fixed,
  Stays-unsigned,
  Stays-unsigned_16,
  Stays-signed,
)

-- ---- what lies end to end

abbrev pub ending_with : List ℕ → Result View Error → Result View Error
ending_with more (Ok w) = Ok (with_more_bytes more w)
ending_with more (Err e) = Err e

abbrev pub listing_with : {A : Type 0} → List ℕ → Listing View A → Listing View A
listing_with more l = record { items = l.items; ending = ending_with more l.ending }

pub listing-stays : {A : Type 0} {p : Step View (Option A)} (more : List ℕ) → Shrinks bytes_left p
    → ((v : View) → Stays more (p v) (p (with_more_bytes more v)))
    → (n : ℕ) (v : View) → bytes_left v < n → NotCut (listing_in bytes_left p v).ending
    → listing_in bytes_left p (with_more_bytes more v) ≡ listing_with more (listing_in bytes_left p v)
listing-stays more h k zero v few uncut = absurd (omega arith)
listing-stays {A} {p} more h k (suc n) v few uncut =
    listing_next h (with_more_bytes more v)
    ∙ by_step (p v) (p (with_more_bytes more v)) refl (k v) (rw (listing_next h v) at uncut)
    (λ t lt. listing-stays more h k n t (omega arith))
    ∙ ap (listing_with more) (sym (listing_next h v))
  where
    by_step : (r s : Result (Option A × View) Error) → p v ≡ r → Stays more r s
        → NotCut (next_item r (listing_in bytes_left p)).ending
        → ((t : View) → bytes_left t < bytes_left v → NotCut (listing_in bytes_left p t).ending
        → listing_in bytes_left p (with_more_bytes more t) ≡ listing_with more (listing_in bytes_left p t))
        → next_item s (listing_in bytes_left p) ≡ listing_with more (next_item r (listing_in bytes_left p))
    by_step (Err d) s is st not_cut again =
        let same : s ≡ Err d = st.same (NotCut-Err d not_cut) in
        ap (λ (t : Result (Option A × View) Error). next_item t (listing_in bytes_left p)) same
    by_step (Ok r) s is st not_cut again =
        let same : s ≡ read r.0 (with_more_bytes more r.1) = st.same (λ id e. cc) in
        ap (λ (t : Result (Option A × View) Error). next_item t (listing_in bytes_left p)) same
        ∙ by_item r.0 refl not_cut
      where
        by_item : (o : Option A) → r.0 ≡ o → NotCut (item_or_end o r.1 (listing_in bytes_left p)).ending
            → item_or_end o (with_more_bytes more r.1) (listing_in bytes_left p)
            ≡ listing_with more (item_or_end o r.1 (listing_in bytes_left p))
        by_item None e still = refl
        by_item (Some x) e still =
            let lt : bytes_left r.1 < bytes_left v = item_smaller h v x r.1 (is ∙ ap (λ (o : Option A). read o r.1) e)
            in
            ap (prepend (x ∷ [])) (again r.1 lt still)

pub Stays-whole : {A : Type 0} {more : List ℕ} (l m : Listing View A) → (NotCut l.ending → m ≡ listing_with more l)
    → Stays more (whole l) (whole m)
Stays-whole {A} {more} l m same = record { same = λ w. ap whole (same (uncut l.ending w)) ∙ by_ending l.ending }
  where
    uncut : (r : Result View Error) → NotCut (whole_of l.items r) → NotCut r
    uncut (Ok u) w = λ id e. cc
    uncut (Err d) w = NotCut-Err d w

    by_ending : (r : Result View Error) → whole_of l.items (ending_with more r) ≡ with_more more (whole_of l.items r)
    by_ending (Ok u) = refl
    by_ending (Err d) = refl
