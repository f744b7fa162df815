-- What a part takes of a section that is read part by part.
use Rattle.std.proofs.Common.{◌≡◌, ℕ, ◌+◌, ◌≤◌, Bool, true, false, cond, eqb, ltb, length, Option, Some, None, Result, Ok, Err, refl, sym, ◌∙◌, ap, arith}
use Rattle.std.proofs.lemmas.Bool.{ltb-false}
use Rattle.gimli_core_base.specs.declared.error.Error.{Error}
use Rattle.gimli_core_base.specs.View.{View, after, prefix, bytes_left, unexpected_end}
use Rattle.gimli_core_base.specs.declared.common.Format.{Format}
use Rattle.gimli_core_base.specs.FormatSizes.{initial_length_size}
use Rattle.gimli_core_base.specs.NumberParsers.{initial_length}
use Rattle.gimli_core_base.specs.Parsers.{Parser, proceed, give, value_of, truncate}
use Rattle.gimli_core_base.specs.Repetition.{no_items, next_item, items_within, listing_in, until_end}
use Rattle.gimli_core_base.proofs.StepParts.{read, value_of-Ok}
use Rattle.gimli_core_readers.specs.Tiling.{RemainingSection, next_offset, part_of, next_part, parts_to_come}
use Rattle.gimli_core_readers.proofs.ByteCountLemmas.{took_left, initial_length_took}
use Rattle.gimli_core_readers.proofs.TilingLemmas.{Parts}

-- a view as an answer
abbrev pub as_answer : View → Result View Error
as_answer v = Ok v

pub left_of_copy : (u v : View) → as_answer u ≡ as_answer v → bytes_left u ≡ bytes_left v
left_of_copy u v copied = let is : u ≡ v = cc in ap bytes_left is

-- no byte is left
pub none_to_come : {A : Type 0} (parse : ℕ → Parser A) (s : RemainingSection) → eqb (length s.rest.bytes) 0 ≡ true
    → parts_to_come parse s ≡ no_items (Ok s.rest)
unfolding listing_in items_within
none_to_come {A} parse s none =
    ap (λ (b : Bool). next_item
    (cond b nothing (proceed (part_of parse s.section_length s.rest) (λ x. give (Some x))))
    (items_within (bytes_left s.rest) (until_end (part_of parse s.section_length)))) none
  where
    nothing : Result (Option A × View) Error
    nothing = Ok (None, s.rest)

-- a part of a copy of the bytes takes at most these
pub part_within : {A : Type 0} {parse : ℕ → Parser A} {offset_of size_of : A → ℕ}
    (parts : Parts parse offset_of size_of) (offset : ℕ) (u v : View) (x : A) → as_answer u ≡ as_answer v
    → value_of (parse offset v) ≡ Ok x → size_of x ≤ bytes_left u
part_within {parse = parse} parts offset u v x copied e =
    let same = left_of_copy u v copied in
    let found = value_of-Ok (parse offset v) x e in
    let enough = (parts.each offset v x found.0 found.1).took.enough in
    omega arith

-- it is the next one
pub part_is_next : {A : Type 0} {parse : ℕ → Parser A} {offset_of size_of : A → ℕ}
    (parts : Parts parse offset_of size_of) (s : RemainingSection) (offset : ℕ) (v : View) (x : A) (w : View)
    → eqb (length s.rest.bytes) 0 ≡ false → as_answer s.rest ≡ as_answer v → offset ≡ next_offset s
    → value_of (parse offset v) ≡ Ok x → w ≡ after (size_of x) s.rest → next_part parse s ≡ Ok (Some x, w)
part_is_next {A} {parse} {offset_of} {size_of} parts s offset v x w some copied at e leaves =
    let is : s.rest ≡ v = cc in
    let found = value_of-Ok (parse offset v) x e in
    let here : parse (next_offset s) s.rest ≡ Ok (x, found.0) =
    ap (λ (o : ℕ). parse o s.rest) (sym at) ∙ ap (parse offset) is ∙ found.1 in
    let left : found.0 ≡ w =
    (parts.each offset v x found.0 found.1).took.rest ∙ ap (after (size_of x)) (sym is) ∙ sym leaves in
    ap (λ (b : Bool). cond b nothing (proceed (parse (next_offset s) s.rest) (λ y. give (Some y)))) some
    ∙ ap (λ (r : Result (A × View) Error). proceed r (λ y. give (Some y))) here
    ∙ ap (λ (u : View). read (Some x) u) left
  where
    nothing : Result (Option A × View) Error
    nothing = Ok (None, s.rest)

-- and a part that can't be read is a fault there
fault_stays : {A : Type 0} (r : Result (A × View) Error) (d : Error) → value_of r ≡ Err d
    → proceed r (λ y. give (Some y)) ≡ Err d
fault_stays (Ok r) d h = absurd cc
fault_stays {A} (Err e) d h = let same : e ≡ d = is_refusal e h in ap refusal same
  where
    refusal : Error → Result (Option A × View) Error
    refusal y = Err y

    error_of : Error → Result A Error
    error_of y = Err y

    is_refusal : (y : Error) → error_of y ≡ Err d → y ≡ d
    is_refusal y k = cc

pub fault_is_next : {A : Type 0} (parse : ℕ → Parser A) (s : RemainingSection) (offset : ℕ) (v : View) (d : Error)
    → eqb (length s.rest.bytes) 0 ≡ false → as_answer s.rest ≡ as_answer v → offset ≡ next_offset s
    → value_of (parse offset v) ≡ Err d → next_part parse s ≡ Err d
fault_is_next {A} parse s offset v d some copied at e =
    let is : s.rest ≡ v = cc in
    let here : parse (next_offset s) s.rest ≡ parse offset v =
    ap (λ (o : ℕ). parse o s.rest) (sym at) ∙ ap (parse offset) is in
    ap (λ (b : Bool). cond b nothing (proceed (parse (next_offset s) s.rest) (λ y. give (Some y)))) some
    ∙ ap (λ (r : Result (A × View) Error). proceed r (λ y. give (Some y))) here
    ∙ fault_stays (parse offset v) d e
  where
    nothing : Result (Option A × View) Error
    nothing = Ok (None, s.rest)

-- ---- a length, and the bytes that it counts

-- bytes that are kept are there
truncated_fits : (n : ℕ) (v w : View) → truncate n v ≡ Ok (tt, w) → n ≤ bytes_left v
truncated_fits n v w h = cases (ltb (length v.bytes) n) refl h
  where
    cases : (b : Bool) → ltb (length v.bytes) n ≡ b
        → cond {A = Result (Unit {0} × View) Error} b (Err (unexpected_end v)) (Ok (tt, prefix n v)) ≡ Ok (tt, w)
        → n ≤ bytes_left v
    cases true e k = absurd cc
    cases false e k = ltb-false (length v.bytes) n e

pub counted_fits : (limit : ℕ) (v : View) (l : ℕ × Format) (s w : View) → initial_length limit v ≡ Ok (l, s)
    → truncate l.0 s ≡ Ok (tt, w) → initial_length_size l.1 + l.0 ≤ bytes_left v
counted_fits limit v l s w first cut =
    let left = took_left ((initial_length_took limit v).hold l s first) in
    let fits = truncated_fits l.0 s w cut in
    omega arith
