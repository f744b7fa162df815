-- How many bytes range lists and entries take.
use Rattle.std.proofs.Common.{◌≡◌, ℕ, suc, ◌+◌, ◌*◌, ◌≤◌, Bool, true, false, cond, List, [], ◌∷◌, ◌++◌, length, flat_map, arith}
use Rattle.std.specs.Prelude.{nat_le}
use Rattle.std.proofs.lemmas.List.{length-append}
use Rattle.linemap_emit_units.specs.Encoding.{Encoding}
use Rattle.linemap_emit_units.specs.Format.{Format}
use Rattle.linemap_emit_units.specs.Format.TheVariants.{Dwarf32, Dwarf64}
use Rattle.linemap_emit_units.specs.FormatSizes.{initial_length_size, word_size}
use Rattle.linemap_emit_units.specs.Fixed.{number_bytes}
use Rattle.linemap_emit_units.specs.Spelling.{unsigned_string}
use Rattle.linemap_emit_units.proofs.NumberRoundTrip.{length-spelled}
use Rattle.linemap_emit_units.specs.Range.{Range}
use Rattle.linemap_emit_units.specs.Entry.{Entry}
use Rattle.linemap_emit_units.specs.EmittedEntries.{EmittedValue, strp, sec_offset, addr, udata, ref4, spelled_value, EmittedAttribute, attributes_of, abbreviation_code, spelled_entry}
use Rattle.linemap_emit_units.specs.EmittedUnits.{spelled_fields}
use Rattle.linemap_emit_units.specs.EmittedRanges.{lists_start, spelled_pair, spelled_range, spelled_end, spelled_ranges}
use Rattle.linemap_emit_fits.proofs.NumberSizes.{length-unsigned, word_few, length-cond}

-- ---- range lists

pair_few : (size : ℕ) (is_big : Bool) (begin end : ℕ) → size ≤ 8 → length (spelled_pair size is_big begin end) ≤ 16
pair_few size is_big begin end narrow =
    sum size _ _ _ narrow (length-spelled is_big size begin) (length-spelled is_big size end)
    (length-append (number_bytes is_big size begin) (number_bytes is_big size end))
  where
    sum : (n x y z : ℕ) → n ≤ 8 → x ≡ n → y ≡ n → z ≡ x + y → z ≤ 16
    sum n x y z a b c d = omega arith

range_few : (e : Encoding) (is_big : Bool) (r : Range) → e.address_size ≤ 8 → length (spelled_range e is_big r) ≤ 17
range_few e is_big r narrow =
    let l = pair_few e.address_size is_big r.begin r.end narrow in
    length-cond (nat_le e.version 4) (spelled_pair e.address_size is_big r.begin r.end)
    (6 ∷ spelled_pair e.address_size is_big r.begin r.end) 17 (omega arith) (omega arith)

all_ranges_few : (e : Encoding) (is_big : Bool) (rs : List Range) → e.address_size ≤ 8
    → length (flat_map (spelled_range e is_big) rs) ≤ 17 * length rs
all_ranges_few e is_big [] narrow = omega arith
all_ranges_few e is_big (r ∷ rs) narrow =
    sum _ _ (length rs) _ (range_few e is_big r narrow) (all_ranges_few e is_big rs narrow)
    (length-append (spelled_range e is_big r) (flat_map (spelled_range e is_big) rs))
  where
    sum : (a b n x : ℕ) → a ≤ 17 → b ≤ 17 * n → x ≡ a + b → x ≤ 17 * suc n
    sum a b n x g h e = omega arith

pub ranges_few : (e : Encoding) (is_big : Bool) (rs : List Range) → e.address_size ≤ 8
    → length (spelled_ranges e is_big rs) ≤ 17 * length rs + 16
ranges_few e is_big rs narrow =
    let l = pair_few e.address_size is_big 0 0 narrow in
    sum _ _ (length rs) _ (all_ranges_few e is_big rs narrow)
    (length-cond (nat_le e.version 4) (spelled_pair e.address_size is_big 0 0) (0 ∷ []) 16 (omega arith) (omega arith))
    (length-append (flat_map (spelled_range e is_big) rs) (spelled_end e is_big))
  where
    sum : (a b n x : ℕ) → a ≤ 17 * n → b ≤ 16 → x ≡ a + b → x ≤ 17 * n + 16
    sum a b n x g h e = omega arith

-- where they begin
pub start_few : (e : Encoding) → lists_start e ≤ 20
start_few e = by (nat_le e.version 4) e.format
  where
    by : (b : Bool) (f : Format) → cond b 0 (initial_length_size f + 8) ≤ 20
    by true f = omega arith
    by false Dwarf32 = omega arith
    by false Dwarf64 = omega arith

-- ---- entries

value_few : (e : Encoding) (is_big : Bool) (v : EmittedValue) → e.address_size ≤ 8
    → length (spelled_value e is_big v) ≤ 10
value_few e is_big (strp offset) narrow =
    let l = length-spelled is_big (word_size e.format) offset in let w = word_few e.format in omega arith
value_few e is_big (sec_offset offset) narrow =
    let l = length-spelled is_big (word_size e.format) offset in let w = word_few e.format in omega arith
value_few e is_big (addr at) narrow = let l = length-spelled is_big e.address_size at in omega arith
value_few e is_big (udata n) narrow = length-unsigned n
value_few e is_big (ref4 offset) narrow = let l = length-spelled is_big 4 offset in omega arith

values_few : (e : Encoding) (is_big : Bool) (ss : List EmittedAttribute) → e.address_size ≤ 8
    → length (flat_map (λ s. spelled_value e is_big s.value) ss) ≤ 10 * length ss
values_few e is_big [] narrow = omega arith
values_few e is_big (s ∷ ss) narrow =
    sum _ _ (length ss) _ (value_few e is_big s.value narrow) (values_few e is_big ss narrow)
    (length-append (spelled_value e is_big s.value)
    (flat_map (λ (s : EmittedAttribute). spelled_value e is_big s.value) ss))
  where
    sum : (a b n x : ℕ) → a ≤ 10 → b ≤ 10 * n → x ≡ a + b → x ≤ 10 * suc n
    sum a b n x g h e = omega arith

-- its code, and its values
pub entry_few : (e : Encoding) (is_big : Bool) (x : Entry) → e.address_size ≤ 8
    → length (spelled_entry e is_big x) ≤ 10 + 10 * length (attributes_of x)
entry_few e is_big x narrow =
    sum _ _ (length (attributes_of x)) _ (length-unsigned (abbreviation_code x))
    (values_few e is_big (attributes_of x) narrow)
    (length-append (unsigned_string (abbreviation_code x))
    (flat_map (λ (s : EmittedAttribute). spelled_value e is_big s.value) (attributes_of x)))
  where
    sum : (a b n x : ℕ) → a ≤ 10 → b ≤ 10 * n → x ≡ a + b → x ≤ 10 + 10 * n
    sum a b n x g h e = omega arith

pub fields_few : (e : Encoding) (is_big : Bool) → length (spelled_fields e is_big) ≤ 12
fields_few e is_big =
    let two = length-spelled is_big 2 e.version in
    let word = length-spelled is_big (word_size e.format) 0 in
    let few = word_few e.format in
    let l1 = length-append (number_bytes is_big (word_size e.format) 0) (e.address_size ∷ []) in
    let l2 =
    length-append (number_bytes is_big 2 e.version)
    (number_bytes is_big (word_size e.format) 0 ++ e.address_size ∷ []) in
    let l3 =
    length-append (number_bytes is_big 2 e.version)
    (1 ∷ e.address_size ∷ number_bytes is_big (word_size e.format) 0) in
    length-cond (nat_le e.version 4)
    (number_bytes is_big 2 e.version ++ (number_bytes is_big (word_size e.format) 0 ++ e.address_size ∷ []))
    (number_bytes is_big 2 e.version ++ (1 ∷ e.address_size ∷ number_bytes is_big (word_size e.format) 0)) 12
    (omega arith) (omega arith)
