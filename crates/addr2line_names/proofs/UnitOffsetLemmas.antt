-- Where units follow one another, an offset of their section leads into the unit that holds it.
use Rattle.std.proofs.Common.{◌≡◌, ℕ, ◌+◌, ◌-◌, ◌<◌, ◌≤◌, ◌&&◌, Bool, true, false, cond, if◌then◌else◌, List, [], ◌∷◌, ◌++◌, filter, All, Option, Some, None, option_map, option_and_then, refl, ap, ◌∙◌, arith}
use Rattle.std.specs.Prelude.{nat_le, nat_lt}
use Rattle.std.specs.List.{last_or}
use Rattle.std.proofs.lemmas.Bool.{ltb-true, lt-ltb, leb-true, le-ltb}
use Rattle.std.proofs.lemmas.List.Elements.{All-head, All-tail, filter-append}
use Rattle.gimli_dwarf.specs.View.{bytes_left}
use Rattle.gimli_dwarf.specs.Error.TheVariants.{NoEntryAtGivenOffset}
use Rattle.gimli_dwarf.specs.UnitHeaders.{DebugUnit, IsWellFormed, size_of_header, header_size, length_including_self}
use Rattle.gimli_dwarf.specs.UnitOffsets.{to_unit_offset}
use Rattle.gimli_dwarf.specs.UnitFacts.{UnitFacts, in_file}
use Rattle.addr2line_names.specs.EntryReferences.{ReferredEntry, begins_below, unit_below, entry_in, or_error}
use Rattle.addr2line_names.specs.FunctionNameLaws.{ComesAfter, OffsetsLeadIntoTheirUnit}

first_holds : (x y : Bool) → (x && y) ≡ true → x ≡ true
first_holds true y h = refl
first_holds false y h = absurd cc

second_holds : (x y : Bool) → (x && y) ≡ true → y ≡ true
second_holds true y h = h
second_holds false y h = absurd cc

abbrev if_so : Bool → ℕ → Option ℕ
if_so b n = if b then Some n else None

was_so : (b : Bool) (n place : ℕ) → if_so b n ≡ Some place → b ≡ true
was_so true n place h = refl
was_so false n place h = absurd cc

-- ---- one unit

header_takes : (most : ℕ) (u : DebugUnit) → IsWellFormed most u → 0 < header_size u
header_takes most u read =
    let whole : size_of_header u + bytes_left u.entries ≡ length_including_self u = read.is_whole in
    let some : 2 ≤ size_of_header u = omega arith in
    omega arith

-- an offset among a unit's entries is after its begin
begins : (most : ℕ) (u : DebugUnit) (offset place : ℕ) → IsWellFormed most u → to_unit_offset u offset ≡ Some place
    → u.offset < offset
begins most u offset place read h =
    let all =
    was_so (nat_le u.offset offset
    && (nat_le (header_size u) (offset - u.offset) && nat_lt (offset - u.offset) (length_including_self u)))
    (offset - u.offset) place h in
    let inner =
    second_holds (nat_le u.offset offset)
    (nat_le (header_size u) (offset - u.offset) && nat_lt (offset - u.offset) (length_including_self u)) all in
    let above : header_size u ≤ offset - u.offset =
    leb-true (header_size u) (offset - u.offset)
    (first_holds (nat_le (header_size u) (offset - u.offset))
    (nat_lt (offset - u.offset) (length_including_self u)) inner) in
    let some : 0 < header_size u = header_takes most u read in
    omega arith

-- and before its end
ends : (u : DebugUnit) (offset place : ℕ) → to_unit_offset u offset ≡ Some place
    → offset < u.offset + length_including_self u
ends u offset place h =
    let all =
    was_so (nat_le u.offset offset
    && (nat_le (header_size u) (offset - u.offset) && nat_lt (offset - u.offset) (length_including_self u)))
    (offset - u.offset) place h in
    let inner =
    second_holds (nat_le u.offset offset)
    (nat_le (header_size u) (offset - u.offset) && nat_lt (offset - u.offset) (length_including_self u)) all in
    let above : u.offset ≤ offset =
    leb-true u.offset offset
    (first_holds (nat_le u.offset offset)
    (nat_le (header_size u) (offset - u.offset) && nat_lt (offset - u.offset) (length_including_self u)) all) in
    let below : offset - u.offset < length_including_self u =
    ltb-true (offset - u.offset) (length_including_self u)
    (second_holds (nat_le (header_size u) (offset - u.offset))
    (nat_lt (offset - u.offset) (length_including_self u)) inner) in
    omega arith

-- ---- all units

last_of_more : {A : Type 0} (o : Option A) (xs ys : List A) → last_or o (xs ++ ys) ≡ last_or (last_or o xs) ys
last_of_more o [] ys = refl
last_of_more o (x ∷ xs) ys = last_of_more (Some x) xs ys

filter_first : {A : Type 0} (b : Bool) (x : A) (xs : List A) → b ≡ true → xs ≡ [] → cond b (x ∷ xs) xs ≡ x ∷ []
filter_first true x xs h none = ap (λ ys. x ∷ ys) none
filter_first false x xs h none = absurd cc

filter_none : {A : Type 0} (b : Bool) (x : A) (xs : List A) → b ≡ false → xs ≡ [] → cond b (x ∷ xs) xs ≡ []
filter_none true x xs h none = absurd cc
filter_none false x xs h none = none

-- none of those after it begins below
none_below : (u : UnitFacts) (offset : ℕ) (after : List UnitFacts)
    → offset < u.header.offset + length_including_self u.header → All (ComesAfter u) after
    → filter (begins_below offset) after ≡ []
none_below u offset [] before stand = refl
none_below u offset (b ∷ bs) before stand =
    let here : u.header.offset + length_including_self u.header ≤ b.header.offset =
    All-head (ComesAfter u) b bs stand in
    let above : offset ≤ b.header.offset = omega arith in
    filter_none (begins_below offset b) b (filter (begins_below offset) bs) (le-ltb b.header.offset offset above)
    (none_below u offset bs before (All-tail (ComesAfter u) b bs stand))

last_is_it : (offset : ℕ) (before after : List UnitFacts) (u : UnitFacts) → begins_below offset u ≡ true
    → filter (begins_below offset) after ≡ []
    → unit_below offset (before ++ u ∷ after) ≡ Some u
last_is_it offset before after u below none =
    let p = begins_below offset in
    ap (λ (us : List UnitFacts). last_or None us)
    (filter-append p before (u ∷ after)
    ∙ ap (λ (us : List UnitFacts). filter p before ++ us) (filter_first (p u) u (filter p after) below none))
    ∙ last_of_more None (filter p before) (u ∷ [])

pub offsets_lead_into_their_unit : OffsetsLeadIntoTheirUnit
offsets_lead_into_their_unit most file s before after u offset place read stand inside =
    let below : begins_below offset u ≡ true =
    lt-ltb u.header.offset offset (begins most u.header offset place read inside) in
    let none : filter (begins_below offset) after ≡ [] =
    none_below u offset after (ends u.header offset place inside) stand in
    ap (λ (o : Option UnitFacts). or_error (NoEntryAtGivenOffset offset) (option_and_then (entry_in file s offset) o))
    (last_is_it offset before after u below none)
    ∙ ap (λ (o : Option ℕ). or_error (NoEntryAtGivenOffset offset) (option_map (λ n. entry n) o)) inside
  where
    entry : ℕ → ReferredEntry
    entry n = record { holder = record { file = file; unit = in_file s u }; offset = n }
