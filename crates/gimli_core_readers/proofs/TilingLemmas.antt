-- Parts that lie end to end: they tile their section, there are no more of them than bytes, and each is found again at
-- its offset.
use Rattle.std.proofs.Common.{◌≡◌, ℕ, zero, suc, ◌+◌, ◌-◌, ◌<◌, ◌≤◌, ◌≢◌, Bool, true, false, cond, eqb, List, [], ◌∷◌, length, drop, Option, Some, None, Result, Ok, Err, refl, sym, ◌∙◌, ap, subst, arith, length-drop}
use Rattle.std.proofs.lemmas.Bool.{eqb-true, eqb-false, le-ltb}
use Rattle.std.proofs.lemmas.List.Elements.{All-nil, All-cons, All-weaker}
use Rattle.std.specs.List.{All}
use Rattle.std.specs.Result.{IfOk}
use Rattle.gimli_core_base.specs.declared.error.Error.{Error}
use Rattle.gimli_core_base.specs.View.{View, after, bytes_left, unexpected_end}
use Rattle.gimli_core_base.specs.declared.common.Format.{Format}
use Rattle.gimli_core_base.specs.FormatSizes.{initial_length_size}
use Rattle.gimli_core_base.specs.NumberParsers.{initial_length}
use Rattle.gimli_core_base.specs.Parsers.{Step, Parser, proceed, give, skip, part, within, value_of, ◌>>◌, ◌>>=◌}
use Rattle.gimli_core_base.specs.Calls.{ReturnsAsOrNoMemory, ReturnsOrNoMemory}
use Rattle.gimli_core_base.specs.Repetition.{Listing, fault_of, listing_in, items_within, next_item, item_or_end, until_end}
use Rattle.gimli_core_base.proofs.StepParts.{read}
use Rattle.gimli_core_base.proofs.StepSizes.{SomeBelow-until_end}
use Rattle.gimli_core_base.proofs.Listings.{Shrinks, listing_end, listing_item, listing_fault}
use Rattle.gimli_core_readers.specs.Iterators.{ComesNext}
use Rattle.gimli_core_readers.specs.Tiling.{RemainingSection, whole_section, part_of, next_part, parts_to_come, Tile}
use Rattle.gimli_core_readers.proofs.ByteCountLemmas.{Took, took_left, took_both, took_same, after_after, Yields, yields-proceed, yields-weaker, yields-within, four_at_least, part_took, initial_length_took}

-- what is known of a part that was read: its offset, and that it took its bytes, of which there are some
pub record IsPart {A : Type 0} (offset_of size_of : A → ℕ) (offset : ℕ) (v : View) (x : A) (w : View) : Type 0 where
  pub at_offset : offset_of x ≡ offset
  pub took : Took (size_of x) v w
  pub some : 0 < size_of x

pub record Parts {A : Type 0} (read : ℕ → Parser A) (offset_of size_of : A → ℕ) : Type 0 where
  pub each : (offset : ℕ) (v : View) (x : A) (w : View) → read offset v ≡ Ok (x, w)
      → IsPart offset_of size_of offset v x w

-- ---- parts that begin with their length

-- a part in the n bytes after its length, in the format of that
pub record IsCounted {A : Type 0} (offset_of length_of : A → ℕ) (format_of : A → Format) (offset n : ℕ)
    (format : Format) (x : A) : Type 0 where
  pub at_offset : offset_of x ≡ offset
  pub long : length_of x ≡ n
  pub in_format : format_of x ≡ format

pub counted_parts : {A : Type 0} (offset_of length_of : A → ℕ) (format_of : A → Format) (limit : ℕ)
    (parse : ℕ → ℕ × Format → Parser A)
    → ((offset : ℕ) (l : ℕ × Format) (v : View)
    → Yields (λ x w. IsCounted offset_of length_of format_of offset l.0 l.1 x) (parse offset l v))
    → Parts (λ offset. initial_length limit >>= λ l. (part l.0 >>= λ bytes. within bytes (parse offset l))) offset_of
    (λ x. initial_length_size (format_of x) + length_of x)
counted_parts {A} offset_of length_of format_of limit parse each = record {
  each = λ offset v x w e.
      let is = (takes offset v).hold x w e in
      let some = four_at_least (format_of x) in
      record { at_offset = is.0; took = is.1; some = omega arith };
}
  where
    takes : (offset : ℕ) (v : View)
        → Yields (λ x w. (offset_of x ≡ offset) × Took (initial_length_size (format_of x) + length_of x) v w)
        ((initial_length limit >>= λ l. (part l.0 >>= λ bytes. within bytes (parse offset l))) v)
    takes offset v =
        yields-proceed (initial_length_took limit v) (λ l s h.
        yields-proceed (part_took l.0 s) (λ bytes t k.
        yields-weaker (yields-within bytes (parse offset l) t (each offset l bytes))
        (λ x w is.
        let long : length_of x ≡ l.0 = is.0.long in
        let format : initial_length_size (format_of x) ≡ initial_length_size l.1 =
        ap initial_length_size is.0.in_format in (
          is.0.at_offset,
          subst (λ (u : View). Took (initial_length_size (format_of x) + length_of x) v u) (sym is.1)
              (took_same (took_both h k.1) (omega arith)),
        ))))

-- ---- end to end

abbrev TileListing : {A : Type 0} → (ℕ → Parser A) → (A → ℕ) → (A → ℕ) → View → ℕ → Listing View A → Type 0
TileListing read offset_of size_of section offset l = Tile read offset_of size_of section offset l.items l.ending

-- a part that is read is followed by the rest of them, and a fault ends them
tile_after_read : {A : Type 0} {parse : ℕ → Parser A} {offset_of size_of : A → ℕ}
    (parts : Parts parse offset_of size_of) (section : View) (offset : ℕ) (rest : View → Listing View A)
    (r : Result (A × View) Error) → offset < bytes_left section
    → ((n : ℕ) → 0 < n → offset + n ≤ bytes_left section
    → TileListing parse offset_of size_of section (offset + n) (rest (after (offset + n) section)))
    → parse offset (after offset section) ≡ r
    → TileListing parse offset_of size_of section offset (next_item (proceed r (λ x. give (Some x))) rest)
tile_after_read parts section offset rest (Err e) lt more h = (lt, ap value_of h)
tile_after_read {parse = parse} {offset_of = offset_of} {size_of = size_of} parts section offset rest (Ok r) lt more h =
    let is = parts.each offset (after offset section) r.0 r.1 h in
    let rest_is : r.1 ≡ after (offset + size_of r.0) section =
    is.took.rest ∙ after_after offset (size_of r.0) section in
    let enough = is.took.enough in
    let some = is.some in
    let fits : offset + size_of r.0 ≤ bytes_left section = omega (arith, length-drop offset section.bytes) in (
      is.at_offset,
      h ∙ ap (λ (w : View). read r.0 w) rest_is,
      subst (λ (w : View). TileListing parse offset_of size_of section (offset + size_of r.0) (rest w)) (sym rest_is)
          (more (size_of r.0) some fits),
    )

-- one round of the listing, by whether any bytes are left
one_round : {A : Type 0} {parse : ℕ → Parser A} {offset_of size_of : A → ℕ} (parts : Parts parse offset_of size_of)
    (section : View) (offset : ℕ) (rest : View → Listing View A) → offset ≤ bytes_left section
    → ((n : ℕ) → 0 < n → offset + n ≤ bytes_left section
    → TileListing parse offset_of size_of section (offset + n) (rest (after (offset + n) section)))
    → TileListing parse offset_of size_of section offset
    (next_item (until_end (part_of parse (bytes_left section)) (after offset section)) rest)
one_round {A} {parse} {offset_of} {size_of} parts section offset rest within more =
    by_end (eqb (length (drop offset section.bytes)) 0) refl
  where
    length_left : length (drop offset section.bytes) ≡ bytes_left section - offset
    length_left = length-drop offset section.bytes

    by_end : (b : Bool) → eqb (length (drop offset section.bytes)) 0 ≡ b
        → TileListing parse offset_of size_of section offset
        (next_item
        (cond b (Ok (None, after offset section))
        (proceed (part_of parse (bytes_left section) (after offset section)) (λ x. give (Some x)))) rest)
    by_end true e = let none : length (drop offset section.bytes) ≡ 0 = eqb-true _ _ e in omega (arith, length_left)
    by_end false e =
        let some : length (drop offset section.bytes) ≢ 0 = eqb-false _ _ e in
        let same : offset ≡ bytes_left section - length (drop offset section.bytes) = omega (arith, length_left) in
        tile_after_read parts section offset rest (part_of parse (bytes_left section) (after offset section))
        (omega (arith, length_left)) more
        (ap (λ (o : ℕ). parse o (after offset section)) same)

tile_from : {A : Type 0} {parse : ℕ → Parser A} {offset_of size_of : A → ℕ} (parts : Parts parse offset_of size_of)
    (section : View) (n offset : ℕ) → offset ≤ bytes_left section → bytes_left section < offset + n
    → TileListing parse offset_of size_of section offset
    (items_within n (until_end (part_of parse (bytes_left section))) (after offset section))
unfolding items_within
tile_from parts section zero offset h k = absurd (omega arith)
tile_from {parse = parse} parts section (suc n) offset h k =
    one_round parts section offset (items_within n (until_end (part_of parse (bytes_left section)))) h
    (λ size some fits. tile_from parts section n (offset + size) fits (omega arith))

-- nothing comes before a whole section
after_zero : (v : View) → after 0 v ≡ v
after_zero v = let place : v.first + 0 ≡ v.first = omega arith in ap at place
  where
    at : ℕ → View
    at n = record { bytes = v.bytes; is_big = v.is_big; first = n }

-- the parts of a section tile it
pub parts_tile : {A : Type 0} {parse : ℕ → Parser A} {offset_of size_of : A → ℕ} (parts : Parts parse offset_of size_of)
    (section : View) → TileListing parse offset_of size_of section 0 (parts_to_come parse (whole_section section))
unfolding listing_in
parts_tile {parse = parse} {offset_of = offset_of} {size_of = size_of} parts section =
    let all = tile_from parts section (suc (bytes_left section)) 0 (omega arith) (omega arith) in
    subst
    (λ (v : View). TileListing parse offset_of size_of section 0
    (items_within (suc (bytes_left section)) (until_end (part_of parse (bytes_left section))) v)) (after_zero section)
    all

-- ---- no more than bytes

-- each part takes some bytes
pub parts_shrink : {A : Type 0} {parse : ℕ → Parser A} {offset_of size_of : A → ℕ}
    (parts : Parts parse offset_of size_of) (section_length : ℕ)
    → Shrinks bytes_left (until_end (part_of parse section_length))
parts_shrink parts section_length = record {
  smaller = λ v n h. SomeBelow-until_end v (λ w k. record {
    left = λ x u e.
        let is = parts.each (section_length - bytes_left w) w x u e in
        let left = took_left is.took in
        let some = is.some in
        omega arith;
  }) h;
}

-- items that each make a size smaller are no more than that size
within_few : {S A : Type 0} {size : S → ℕ} {p : Step S (Option A)} → Shrinks size p → (n : ℕ) (s : S)
    → length (items_within n p s).items ≤ size s
unfolding items_within
within_few h zero s = omega arith
within_few {S} {A} {size} {p} h (suc n) s =
    at_item (p s) (λ x t e. (h.smaller s (size s) (omega arith)).left x t e) (within_few h n)
  where
    at_option : (o : Option A) (t : S) → ((x : A) → o ≡ Some x → size t < size s)
        → length (items_within n p t).items ≤ size t → length (item_or_end o t (items_within n p)).items ≤ size s
    at_option None t k few = omega arith
    at_option (Some x) t k few = let less = k x refl in omega arith

    at_item : (r : Result (Option A × S) Error) → ((x : A) (t : S) → r ≡ Ok (Some x, t) → size t < size s)
        → ((t : S) → length (items_within n p t).items ≤ size t)
        → length (next_item r (items_within n p)).items ≤ size s
    at_item (Err d) k few = omega arith
    at_item (Ok r) k few = at_option r.0 r.1 (λ x e. k x r.1 (ap (λ (o : Option A). read o r.1) e)) (few r.1)

pub listing_few : {S A : Type 0} {size : S → ℕ} {p : Step S (Option A)} → Shrinks size p → (s : S)
    → length (listing_in size p s).items ≤ size s
unfolding listing_in
listing_few {size = size} h s = within_few h (suc (size s)) s

-- ---- one after the other

-- what a call of `next` makes of what was to come
pub comes_next : {A : Type 0} (p : Parser (Option A)) → Shrinks bytes_left p
    → (result : Result (Option A) Error) (old new : View) → ReturnsAsOrNoMemory (λ x. (x, new)) result (p old)
    → ComesNext result (listing_in bytes_left p old) (listing_in bytes_left p new)
comes_next p shrinks (Ok None) old new h =
    let all = listing_end shrinks old new h in (ap (λ l. l.items) all, ap fault_of all)
comes_next p shrinks (Ok (Some x)) old new h = listing_item shrinks [] x old new h
comes_next p shrinks (Err e) old new h =
    λ ne. let all = listing_fault shrinks old e (h ne) in (ap (λ l. l.items) all, ap fault_of all)

pub part_comes_next : {A : Type 0} {parse : ℕ → Parser A} {offset_of size_of : A → ℕ}
    (parts : Parts parse offset_of size_of) (result : Result (Option A) Error) (old new : RemainingSection)
    → new.section_length ≡ old.section_length → ReturnsAsOrNoMemory (λ x. (x, new.rest)) result (next_part parse old)
    → ComesNext result (parts_to_come parse old) (parts_to_come parse new)
part_comes_next {parse = parse} parts result old new same h =
    subst
    (λ (n : ℕ). ComesNext result (parts_to_come parse old)
    (listing_in bytes_left (until_end (part_of parse n)) new.rest)) (sym same)
    (comes_next (until_end (part_of parse old.section_length)) (parts_shrink parts old.section_length) result old.rest
    new.rest h)

-- ---- found again

-- the part at an offset of a section
abbrev part_lookup : {A : Type 0} → (ℕ → Parser A) → ℕ → View → Result A Error
part_lookup parse offset section = value_of ((skip offset >> parse offset) section)

-- a part at an offset is read there
part_lookup_is_part : {A : Type 0} {parse : ℕ → Parser A} {offset_of size_of : A → ℕ}
    (parts : Parts parse offset_of size_of) (section : View) (offset : ℕ) (x : A) (w : View) → offset_of x ≡ offset
    → parse offset (after offset section) ≡ Ok (x, w) → part_lookup parse (offset_of x) section ≡ Ok x
part_lookup_is_part {A} {parse} {offset_of} {size_of} parts section offset x w at e =
    let is = parts.each offset (after offset section) x w e in
    let enough = is.took.enough in
    let some = is.some in
    let within : offset ≤ length section.bytes = omega (arith, length-drop offset section.bytes) in
    subst (λ (o : ℕ). part_lookup parse o section ≡ Ok x) (sym at)
    (ap (λ (b : Bool). value_of
    (proceed (cond b (Err (unexpected_end section)) (read tt (after offset section))) (λ _. parse offset)))
    (le-ltb (length section.bytes) offset within) ∙ ap value_of e)

part_lookups_are_parts : {A : Type 0} {parse : ℕ → Parser A} {offset_of size_of : A → ℕ}
    (parts : Parts parse offset_of size_of) (section : View) (offset : ℕ) (xs : List A) (ending : Result View Error)
    → Tile parse offset_of size_of section offset xs ending
    → All (λ x. part_lookup parse (offset_of x) section ≡ Ok x) xs
part_lookups_are_parts {parse = parse} {offset_of = offset_of} parts section offset [] ending t =
    All-nil (λ x. part_lookup parse (offset_of x) section ≡ Ok x)
part_lookups_are_parts {parse = parse} {offset_of = offset_of} {size_of = size_of} parts section offset (x ∷ xs) ending
    t =
    All-cons (λ x. part_lookup parse (offset_of x) section ≡ Ok x) x xs
    (part_lookup_is_part parts section offset x _ t.0 t.1)
    (part_lookups_are_parts parts section (offset + size_of x) xs ending t.2)

-- each part of a section is found again at its offset
pub parts_are_lookups : {A : Type 0} {parse : ℕ → Parser A} {offset_of size_of : A → ℕ}
    (parts : Parts parse offset_of size_of) (section : View)
    → All (λ x. part_lookup parse (offset_of x) section ≡ Ok x) (parts_to_come parse (whole_section section)).items
parts_are_lookups {parse = parse} parts section = part_lookups_are_parts parts section 0 _ _ (parts_tile parts section)

-- ---- what calls promise

-- a view as an answer, and what is left of a section as one
abbrev as_answer : {A : Type 0} → A → Result A Error
as_answer x = Ok x

-- after a part there are no more bytes than before it, so they still fit into the section, of which the reader is a
-- copy
pub part_leaves_within : {A : Type 0} {parse : ℕ → Parser A} {offset_of size_of : A → ℕ}
    (parts : Parts parse offset_of size_of) (offset total : ℕ) (u v : View) (x : A) (w : View) → bytes_left u ≤ total
    → as_answer u ≡ as_answer v → parse offset v ≡ Ok (x, w) → bytes_left w ≤ total
part_leaves_within parts offset total u v x w fits copied e =
    let is : u ≡ v = cc in
    let same : bytes_left u ≡ bytes_left v = ap bytes_left is in
    let left = took_left (parts.each offset v x w e).took in
    omega arith

-- the parts that an iterator has before it are those of the section
pub tile_in : {A : Type 0} {parse : ℕ → Parser A} {offset_of size_of : A → ℕ} (parts : Parts parse offset_of size_of)
    (section : View) (result : Result RemainingSection Error) → ReturnsOrNoMemory result (Ok (whole_section section))
    → IfOk result (λ s. TileListing parse offset_of size_of section 0 (parts_to_come parse s))
tile_in {parse = parse} {offset_of = offset_of} {size_of = size_of} parts section (Ok s) e =
    let is : whole_section section ≡ s = cc in
    subst (λ (t : RemainingSection). TileListing parse offset_of size_of section 0 (parts_to_come parse t)) is
    (parts_tile parts section)
tile_in parts section (Err d) e = tt

pub few_in : {A : Type 0} {parse : ℕ → Parser A} {offset_of size_of : A → ℕ} (parts : Parts parse offset_of size_of)
    (section : View) (result : Result RemainingSection Error) → ReturnsOrNoMemory result (Ok (whole_section section))
    → IfOk result (λ s. length (parts_to_come parse s).items ≤ bytes_left section)
few_in {parse = parse} parts section (Ok s) e =
    let is : whole_section section ≡ s = cc in
    subst (λ (t : RemainingSection). length (parts_to_come parse t).items ≤ bytes_left section) is
    (listing_few (parts_shrink parts (bytes_left section)) section)
few_in parts section (Err d) e = tt

-- a call that looks up an offset answers the part of the section that is there
pub lookup_is_part : {A : Type 0} {parse : ℕ → Parser A} {offset_of size_of : A → ℕ}
    (parts : Parts parse offset_of size_of) (section : View) (offset : ℕ) (result : Result A Error)
    → ReturnsOrNoMemory result (part_lookup parse offset section)
    → All (λ x. offset_of x ≡ offset → ReturnsOrNoMemory result (Ok x))
    (parts_to_come parse (whole_section section)).items
lookup_is_part {A} {parse} {offset_of} parts section offset result h =
    All-weaker (λ x. part_lookup parse (offset_of x) section ≡ Ok x)
    (λ x. offset_of x ≡ offset → ReturnsOrNoMemory result (Ok x))
    (λ x found at. let there : part_lookup parse offset section
    ≡ Ok x = subst (λ (o : ℕ). part_lookup parse o section ≡ Ok x) at found in
    subst (λ (r : Result A Error). ReturnsOrNoMemory result r) there h)
    (parts_to_come parse (whole_section section)).items (parts_are_lookups parts section)
