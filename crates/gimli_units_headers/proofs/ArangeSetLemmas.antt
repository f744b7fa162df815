-- What is known of a set of address ranges that was read, and how its ranges follow one another.
use Rattle.std.proofs.Common.{◌≡◌, ℕ, suc, ◌+◌, ◌*◌, ◌<◌, ◌≤◌, Bool, true, false, cond, ltb, eqb, length, List, [], ◌∷◌, Option, Some, None, Result, Ok, Err, refl, sym, ◌∙◌, ap, subst, arith}
use Rattle.std.specs.Prelude.{IsTrue}
use Rattle.std.specs.Result.{IfOk, IsErrAnd}
use Rattle.std.specs.List.{filter_map, cons_option}
use Rattle.gimli_core_base.specs.declared.error.Error.{Error}
use Rattle.gimli_core_base.specs.declared.error.Error.TheVariants.{UnknownVersion, UnsupportedSegmentSize}
use Rattle.gimli_core_base.specs.View.{View, bytes_left}
use Rattle.gimli_core_base.specs.Parsers.{proceed, give}
use Rattle.gimli_core_base.specs.Calls.{ReturnsOrNoMemory}
use Rattle.gimli_core_base.specs.Repetition.{Listing, listing_in}
use Rattle.gimli_core_base.proofs.StepParts.{begins, value_is, state_is}
use Rattle.gimli_core_base.proofs.StepSizes.{SomeBelow-None, SomeBelow-cond}
use Rattle.gimli_core_base.proofs.Listings.{Shrinks, listing_end, listing_item}
use Rattle.gimli_core_base.specs.declared.common.Format.{Format}
use Rattle.gimli_core_base.specs.NumberParsers.{is_address_size}
use Rattle.gimli_core_readers.specs.Iterators.{ReturnsNext}
use Rattle.gimli_units_headers.specs.SectionParts.{counted_part}
use Rattle.gimli_units_headers.specs.ArangeSets.{ArangeSet, ArangePair, RemainingPairs, arange_fields, arange_padding, arange_set_in, arange_set, set_size, pair, next_pair, arange_of, transpose, pairs_of, pairs_to_come, aranges_to_come}
use Rattle.gimli_core_readers.proofs.ByteCountLemmas.{Took, took_left, took_both, Yields, yields-Ok, yields-Err, yields-proceed, yields-cond, some_size, fixed_took, skip_took, word_took, address_size_took}
use Rattle.gimli_core_readers.proofs.TilingLemmas.{Parts, IsCounted, counted_parts, listing_few}

-- ---- sets

-- fields are in the format of the length
fields_are : (limit : ℕ) (format : Format) (v : View)
    → Yields (λ f w. f.encoding.format ≡ format) (arange_fields limit format v)
unfolding arange_fields
fields_are limit format v =
    yields-proceed (fixed_took 2 v) (λ version s1 h1.
    yields-proceed {P = λ x w. Unit {0}}
    (yields-cond (eqb version 2) (λ _. yields-Ok tt s1 tt) (λ _. yields-Err (UnknownVersion version))) (λ of_2 s2 h2.
    yields-proceed (word_took limit format s2) (λ info_offset s3 h3.
    yields-proceed (address_size_took s3) (λ size s4 h4.
    yields-proceed (fixed_took 1 s4) (λ segment s5 h5.
    yields-proceed {P = λ x w. Unit {0}}
    (yields-cond (eqb segment 0) (λ _. yields-Ok tt s5 tt) (λ _. yields-Err UnsupportedSegmentSize)) (λ flat s6 h6.
    yields-proceed (skip_took (arange_padding format size) s6) (λ padding s7 h7.
    yields-Ok _ s7 refl)))))))

-- a set in the bytes that its length counts
set_is : (limit offset set_length : ℕ) (format : Format) (v : View)
    → Yields (λ s w. IsCounted (λ (s : ArangeSet). s.offset) (λ s. s.length) (λ s. s.encoding.format) offset set_length
    format s) (arange_set_in limit offset set_length format v)
unfolding arange_set_in
set_is limit offset set_length format v =
    yields-proceed (fields_are limit format v)
    (λ f s h. yields-Ok _ s (record { at_offset = refl; long = refl; in_format = h }))

-- sets are parts of a section that lie end to end
pub sets_are_parts : (limit : ℕ) → Parts (arange_set limit) (λ s. s.offset) set_size
unfolding counted_part
sets_are_parts limit =
    counted_parts (λ (s : ArangeSet). s.offset) (λ s. s.length) (λ s. s.encoding.format) limit
    (λ offset l. arange_set_in limit offset l.0 l.1) (λ offset l v. set_is limit offset l.0 l.1 v)

-- ---- pairs

pub pair_took : (size : ℕ) (v : View) → Yields (λ p w. Took (size + size) v w) (pair size v)
unfolding pair
pair_took size v =
    yields-proceed (fixed_took size v) (λ address s h.
    yields-proceed (fixed_took size s) (λ length t k.
    yields-Ok _ t (took_both h k)))

-- each pair takes some bytes
pub pairs_shrink : (size : ℕ) → 0 < size → Shrinks bytes_left (next_pair size)
unfolding next_pair
pairs_shrink size some = record {
  smaller = λ v n h. SomeBelow-cond (ltb (bytes_left v) (2 * size)) SomeBelow-None (record {
    left = λ p w e.
        let b = begins (pair size v) (λ p. give (Some p)) (Some p) w e in
        let left = took_left ((pair_took size v).hold b.0 b.1 b.2) in
        let same : bytes_left w ≡ bytes_left b.1 = ap bytes_left (sym (state_is (Some b.0) (Some p) b.1 w b.3)) in
        omega arith;
  });
}

-- the ranges of pairs
ranges_of : ℕ → Listing View ArangePair → List (Result ArangePair Error)
ranges_of size l = filter_map (λ p. transpose (arange_of size p)) l.items

-- what is to come begins with what the next pair stands for
pub pair_next : (old new : RemainingPairs) (p : ArangePair) (r : Result (Option ArangePair) Error)
    → IsTrue (is_address_size old.address_size) → new.address_size ≡ old.address_size
    → next_pair old.address_size old.rest ≡ Ok (Some p, new.rest) → r ≡ arange_of old.address_size p
    → aranges_to_come old ≡ cons_option (transpose r) (aranges_to_come new)
unfolding ranges_of
pair_next old new p r h same e resolved =
    let size = old.address_size in
    let item = listing_item (pairs_shrink size (some_size size h)) [] p old.rest new.rest e in
    ap (ranges_of size) item
    ∙ ap (λ (o : Result (Option ArangePair) Error). cons_option (transpose o)
    (ranges_of size (listing_in bytes_left (next_pair size) new.rest))) (sym resolved)
    ∙ ap (λ (n : ℕ). cons_option (transpose r) (ranges_of n (listing_in bytes_left (next_pair n) new.rest))) (sym same)

-- where there is no pair, nothing is read
pub none_moves : (size : ℕ) (v w : View) → next_pair size v ≡ Ok (None, w) → w ≡ v
unfolding next_pair
none_moves size v w e = at (ltb (bytes_left v) (2 * size)) e
  where
    none : Option ArangePair
    none = None

    at : (b : Bool) → cond b (Ok (None, v)) (proceed (pair size v) (λ p. give (Some p))) ≡ Ok (None, w) → w ≡ v
    at true k = sym (state_is none none v w k)
    at false k =
        let b = begins (pair size v) (λ p. give (Some p)) none w k in
        let is : Some b.0 ≡ none = value_is (Some b.0) none b.1 w b.3 in
        absurd cc

-- without a further pair nothing is to come, then and later
pub no_pair : (old new : RemainingPairs) → IsTrue (is_address_size old.address_size)
    → new.address_size ≡ old.address_size
    → next_pair old.address_size old.rest ≡ Ok (None, new.rest)
    → (aranges_to_come old ≡ []) × (aranges_to_come new ≡ [])
unfolding ranges_of
no_pair old new h same e =
    let size = old.address_size in
    let ends = listing_end (pairs_shrink size (some_size size h)) old.rest new.rest e in
    let none : aranges_to_come old ≡ [] = ap (ranges_of size) ends in
    let still : aranges_to_come new ≡ aranges_to_come old =
    ap (λ (n : ℕ). ranges_of n (listing_in bytes_left (next_pair n) new.rest)) same
    ∙ ap (λ (v : View). ranges_of size (listing_in bytes_left (next_pair size) v))
    (none_moves size old.rest new.rest e) in
    (none, still ∙ none)

-- a pair leaves fewer bytes
pub pair_smaller : (size : ℕ) (v : View) (p : ArangePair) (w : View) → IsTrue (is_address_size size)
    → next_pair size v ≡ Ok (Some p, w) → bytes_left w < bytes_left v
pair_smaller size v p w h e = ((pairs_shrink size (some_size size h)).smaller v (bytes_left v) (omega arith)).left p w e

-- a pair whose end is refused is the first answer, a refusal
pub first_is_refusal : (r : Result (Option ArangePair) Error) (old new : List (Result ArangePair Error)) (d : Error)
    → IsErrAnd r (λ e. e ≡ d) → old ≡ Err d ∷ new → ReturnsNext (λ x. x) r old new
first_is_refusal (Ok o) old new d h k = absurd h
first_is_refusal (Err e) old new d h k = k ∙ ap (λ (f : Error). refusal f ∷ new) (sym h)
  where
    refusal : Error → Result ArangePair Error
    refusal f = Err f

-- ---- no more than bytes

cons_few : {A : Type 0} (o : Option A) (xs : List A) (n : ℕ) → length xs ≤ n → length (cons_option o xs) ≤ suc n
cons_few None xs n h = omega arith
cons_few (Some x) xs n h = omega arith

filter_map_few : {A B : Type 0} (f : A → Option B) (xs : List A) → length (filter_map f xs) ≤ length xs
filter_map_few f [] = omega arith
filter_map_few f (x ∷ xs) = cons_few (f x) (filter_map f xs) (length xs) (filter_map_few f xs)

few_ranges : (s : RemainingPairs) → IsTrue (is_address_size s.address_size)
    → length (aranges_to_come s) ≤ bytes_left s.rest
few_ranges s h =
    let few_pairs = filter_map_few (λ p. transpose (arange_of s.address_size p)) (pairs_to_come s) in
    let few = listing_few (pairs_shrink s.address_size (some_size s.address_size h)) s.rest in
    omega arith

-- the ranges of a set are no more than its bytes
pub few_in_set : (set : ArangeSet) (result : Result RemainingPairs Error)
    → IsTrue (is_address_size set.encoding.address_size) → ReturnsOrNoMemory result (Ok (pairs_of set))
    → IfOk result (λ s. length (aranges_to_come s) ≤ bytes_left set.pairs)
few_in_set set (Ok s) h e =
    let is : pairs_of set ≡ s = cc in
    subst (λ (t : RemainingPairs). length (aranges_to_come t) ≤ bytes_left set.pairs) is (few_ranges (pairs_of set) h)
few_in_set set (Err d) h e = tt
