-- Pairs that a call skips, and the pair that it answers about.
use Rattle.std.proofs.Common.{◌≡◌, ℕ, zero, suc, ◌+◌, ◌*◌, Bool, true, false, cond, ltb, List, [], ◌∷◌, ◌++◌, length, Option, Some, None, Result, Ok, Err, refl, sym, ◌∙◌, ap, subst, arith, append_assoc}
use Rattle.std.specs.Prelude.{IsTrue}
use Rattle.std.specs.Result.{IsErrAnd}
use Rattle.std.proofs.lemmas.List.Elements.{All-append, All-nil, All-cons}
use Rattle.gimli_core_base.specs.declared.error.Error.{Error}
use Rattle.gimli_core_base.specs.View.{View, after, bytes_left}
use Rattle.gimli_core_base.specs.Parsers.{proceed, give}
use Rattle.gimli_core_base.proofs.StepParts.{begins, value_is, state_is}
use Rattle.gimli_core_base.specs.Repetition.{Listing, listing_in}
use Rattle.gimli_core_base.proofs.Listings.{listing_end, listing_item}
use Rattle.gimli_core_base.specs.NumberParsers.{is_address_size}
use Rattle.gimli_units_headers.specs.ArangeSets.{ArangePair, RemainingPairs, pair, next_pair, arange_of, pairs_to_come, SkipsPairs, Consumes, TakesPairs}
use Rattle.gimli_core_readers.proofs.ByteCountLemmas.{Took, after_after, some_size}
use Rattle.gimli_units_headers.proofs.ArangeSetLemmas.{pair_took, pairs_shrink, none_moves}

-- the pairs of a listing
items_of : Listing View ArangePair → List ArangePair
items_of l = l.items

-- the next pair comes first
pub first_pair : (old new : RemainingPairs) (p : ArangePair) → IsTrue (is_address_size old.address_size)
    → new.address_size ≡ old.address_size → next_pair old.address_size old.rest ≡ Ok (Some p, new.rest)
    → pairs_to_come old ≡ p ∷ pairs_to_come new
unfolding items_of
first_pair old new p h same e =
    let size = old.address_size in
    ap items_of (listing_item (pairs_shrink size (some_size size h)) [] p old.rest new.rest e)
    ∙ ap (λ (n : ℕ). p ∷ items_of (listing_in bytes_left (next_pair n) new.rest)) (sym same)

-- without a further pair none is to come, then and later
pub no_pairs : (old new : RemainingPairs) → IsTrue (is_address_size old.address_size)
    → new.address_size ≡ old.address_size
    → next_pair old.address_size old.rest ≡ Ok (None, new.rest) → (pairs_to_come old ≡ []) × (pairs_to_come new ≡ [])
unfolding items_of
no_pairs old new h same e =
    let size = old.address_size in
    let none : pairs_to_come old
    ≡ [] = ap items_of (listing_end (pairs_shrink size (some_size size h)) old.rest new.rest e) in
    let still : pairs_to_come new ≡ pairs_to_come old =
    ap (λ (n : ℕ). items_of (listing_in bytes_left (next_pair n) new.rest)) same
    ∙ ap (λ (v : View). items_of (listing_in bytes_left (next_pair size) v)) (none_moves size old.rest new.rest e) in
    (none, still ∙ none)

-- nothing is skipped yet
pub skips_none : (size : ℕ) (pairs : List ArangePair) → SkipsPairs size pairs pairs
skips_none size pairs = ([], refl, All-nil (λ (p : ArangePair). arange_of size p ≡ Ok None))

-- one more pair that stands for none
pub skips_one : (size : ℕ) (old : List ArangePair) (p : ArangePair) (new : List ArangePair)
    → SkipsPairs size old (p ∷ new) → arange_of size p ≡ Ok None → SkipsPairs size old new
skips_one size old p new h none =
    let P : ArangePair → Type 0 = λ q. arange_of size q ≡ Ok None in (
      h.0 ++ p ∷ [],
      h.1 ∙ sym (append_assoc h.0 (p ∷ []) new),
      All-append P h.0 (p ∷ []) h.2
          (All-cons P p [] none (All-nil P)),
    )

-- a pair whose end is refused
pub consumes_refusal : (size : ℕ) (r : Result (Option ArangePair) Error) (old : List ArangePair) (p : ArangePair)
    (new : List ArangePair) (d : Error) → SkipsPairs size old (p ∷ new) → IsErrAnd r (λ e. e ≡ d)
    → arange_of size p ≡ Err d → Consumes size r old new
consumes_refusal size (Ok o) old p new d h is e = absurd is
consumes_refusal size (Err f) old p new d h is e = (p, h, e ∙ ap (λ (x : Error). refusal x) (sym is))
  where
    refusal : Error → Result (Option ArangePair) Error
    refusal x = Err x

-- ---- a loop over pairs that began at one place and is at another

-- the pairs that were skipped so far, and the next one
pub skips_up_to : (size : ℕ) (begun at : List ArangePair) (p : ArangePair) (new : List ArangePair)
    → SkipsPairs size begun at → at ≡ p ∷ new → SkipsPairs size begun (p ∷ new)
skips_up_to size begun at p new h e = (h.0, h.1 ∙ ap (λ (t : List ArangePair). h.0 ++ t) e, h.2)

-- no further pair
pub skips_all : (size : ℕ) (begun at : List ArangePair) → SkipsPairs size begun at → at ≡ [] → SkipsPairs size begun []
skips_all size begun at h e = (h.0, h.1 ∙ ap (λ (t : List ArangePair). h.0 ++ t) e, h.2)

-- where a step leads, and what the pair there stands for
pub record PairStep (begun old new : RemainingPairs) (p : ArangePair) (r : Result (Option ArangePair) Error) :
    Type 0 where
  pub so_far : SkipsPairs begun.address_size (pairs_to_come begun) (p ∷ pairs_to_come new)
  pub stands_for : arange_of begun.address_size p ≡ r

pub pair_step : (begun old new : RemainingPairs) (p : ArangePair) (r : Result (Option ArangePair) Error)
    → SkipsPairs begun.address_size (pairs_to_come begun) (pairs_to_come old) → old.address_size ≡ begun.address_size
    → IsTrue (is_address_size old.address_size) → new.address_size ≡ old.address_size
    → next_pair old.address_size old.rest ≡ Ok (Some p, new.rest) → r ≡ arange_of old.address_size p
    → PairStep begun old new p r
pair_step begun old new p r so_far began h same e resolved = record {
  so_far =
      skips_up_to begun.address_size (pairs_to_come begun) (pairs_to_come old) p (pairs_to_come new) so_far
      (first_pair old new p h same e);
  stands_for = ap (λ (n : ℕ). arange_of n p) (sym began) ∙ sym resolved;
}

-- ---- the bytes that are taken

-- a pair takes its bytes
pair_takes : (size : ℕ) (v : View) (p : ArangePair) (w : View) → next_pair size v ≡ Ok (Some p, w)
    → Took (size + size) v w
unfolding next_pair
pair_takes size v p w e = at (ltb (bytes_left v) (2 * size)) e
  where
    none : Option ArangePair
    none = None

    at : (b : Bool) → cond b (Ok (None, v)) (proceed (pair size v) (λ q. give (Some q))) ≡ Ok (Some p, w)
        → Took (size + size) v w
    at true k = let is : none ≡ Some p = value_is none (Some p) v w k in absurd cc
    at false k =
        let b = begins (pair size v) (λ q. give (Some q)) (Some p) w k in
        subst (λ (u : View). Took (size + size) v u) (state_is (Some b.0) (Some p) b.1 w b.3)
        ((pair_took size v).hold b.0 b.1 b.2)

-- a view of the same bytes at another place
abbrev placed : View → ℕ → View
placed v n = record { bytes = v.bytes; is_big = v.is_big; first = n }

-- none yet
after_none : (v : View) → after 0 v ≡ v
after_none v = let place : v.first + 0 ≡ v.first = omega arith in ap (placed v) place

pub takes_none : (s : RemainingPairs) → TakesPairs s s
takes_none s = record {
  count = 0;
  pairs = omega arith;
  rest =
      let no_bytes : 0 * (2 * s.address_size) ≡ 0 = omega arith in
      sym (ap (λ (n : ℕ). after n s.rest) no_bytes ∙ after_none s.rest);
}

-- one more pair
pub takes_one : (begun old new : RemainingPairs) (p : ArangePair) → TakesPairs begun old
    → old.address_size ≡ begun.address_size → IsTrue (is_address_size old.address_size)
    → new.address_size ≡ old.address_size → next_pair old.address_size old.rest ≡ Ok (Some p, new.rest)
    → TakesPairs begun new
takes_one begun old new p h began some same e =
    let size = old.address_size in
    let first : length (pairs_to_come old) ≡ suc (length (pairs_to_come new)) =
    ap length (first_pair old new p some same e) in
    let before = h.pairs in
    let took = pair_takes size old.rest p new.rest e in
    let bytes : h.count * (2 * begun.address_size) + (size + size) ≡ suc h.count * (2 * begun.address_size) =
    omega (arith, began) in
    record {
      count = suc h.count;
      pairs = omega arith;
      rest =
          took.rest
          ∙ ap (after (size + size)) h.rest
          ∙ after_after (h.count * (2 * begun.address_size)) (size + size) begun.rest
          ∙ ap (λ (n : ℕ). after n begun.rest) bytes;
    }

-- no further pair
pub takes_no_more : (begun old new : RemainingPairs) → TakesPairs begun old → IsTrue (is_address_size old.address_size)
    → new.address_size ≡ old.address_size → next_pair old.address_size old.rest ≡ Ok (None, new.rest)
    → TakesPairs begun new
takes_no_more begun old new h some same e =
    let ends = no_pairs old new some same e in
    record {
      count = h.count;
      pairs = h.pairs ∙ ap (λ (ps : List ArangePair). h.count + length ps) (ends.0 ∙ sym ends.1);
      rest = none_moves old.address_size old.rest new.rest e ∙ h.rest;
    }
