-- Attributes that are read wherever their bytes are there.
use Rattle.std.proofs.Common.{◌≡◌, ℕ, ℤ, zero, suc, ◌+◌, ◌*◌, ◌^◌, ◌<◌, ◌≤◌, Bool, true, false, eqb, ltb, cond, ◌&&◌, ◌||◌, not, List, [], ◌∷◌, length, take, get_or, Option, Some, None, Result, Ok, Err, refl, sym, ap, subst, ◌∙◌, arith}
use Rattle.std.specs.Prelude.{All, is_some}
use Rattle.std.specs.Result.{is_ok}
use Rattle.std.proofs.lemmas.Bool.{eqb-true, le-ltb, lt-ltb}
use Rattle.std.proofs.lemmas.List.{length-take-le}
use Rattle.std.proofs.lemmas.List.Elements.{All-head, All-tail, All-take, All-from_get_or}
use Rattle.std.proofs.Math.Nat.{add-mul, mul-le-mul_right, pow-succ'}
use Rattle.gimli_core_base.specs.declared.error.Error.{Error}
use Rattle.gimli_core_base.specs.declared.error.Error.TheVariants.{UnsupportedOffset}
use Rattle.gimli_core_base.specs.declared.common.Encoding.{Encoding}
use Rattle.gimli_core_base.specs.Fixed.{little, big, number}
use Rattle.gimli_core_base.specs.NumberParsers.{fixed}
use Rattle.gimli_core_base.specs.Parsers.{proceed, give, lift}
use Rattle.gimli_core_base.specs.View.{View, after, bytes_left}
use Rattle.gimli_units_forms.specs.Declarations.{Attribute}
use Rattle.gimli_units_forms.specs.declared.spelling.Spelling.{Spelling}
use Rattle.gimli_units_forms.specs.declared.spelling.Spelling.TheVariants.{Fixed, Sixteen, Constant, Indirect}
use Rattle.gimli_units_forms.specs.FormSpellings.{spelling}
use Rattle.gimli_units_forms.specs.AttributeReading.{attribute, value, attribute_in_form, spelled_value, raw_attribute, number_value, is_offset_data, data_of_word, meanings, meaning_in, offset, offset_or_fault}
use Rattle.gimli_units_forms.specs.AttributeValues.{RawValue, section_offset, data_8, data_16, signed_data, type_reference}
use Rattle.gimli_units_forms.proofs.FinalFormLemmas.{final_form-other}
use Rattle.gimli_units_forms.proofs.PlaceLemmas.{after-zero}
use Rattle.gimli_units_entries.specs.SureWidths.{IsByte, IsRead, IsSure, is_long_number}

-- ---- numbers of a few bytes

little_below : (bs : List ℕ) → All IsByte bs → little bs < 256 ^ length bs
little_below [] good = omega arith
little_below (b ∷ bs) good =
    let small : b < 256 = All-head IsByte b bs good in
    let rest = little_below bs (All-tail IsByte b bs good) in
    rw (pow-succ' 256 (length bs)) (omega arith)

big_below : (bs : List ℕ) → All IsByte bs → big bs < 256 ^ length bs
big_below [] good = omega arith
big_below (b ∷ bs) good =
    let small : b < 256 = All-head IsByte b bs good in
    let rest = big_below bs (All-tail IsByte b bs good) in
    let top : (b + 1) * 256 ^ length bs ≤ 256 * 256 ^ length bs = mul-le-mul_right (256 ^ length bs) (omega arith) in
    let split = add-mul b 1 (256 ^ length bs) in
    rw (pow-succ' 256 (length bs)) (omega arith)

number_below : (is_big : Bool) (bs : List ℕ) → All IsByte bs → number is_big bs < 256 ^ length bs
number_below true bs good = big_below bs good
number_below false bs good = little_below bs good

small_power : (n : ℕ) → n ≤ 4 → 256 ^ n ≤ 2 ^ 32
small_power zero h = omega arith
small_power (suc zero) h = omega arith
small_power (suc (suc zero)) h = omega arith
small_power (suc (suc (suc zero))) h = omega arith
small_power (suc (suc (suc (suc zero)))) h = omega arith
small_power (suc (suc (suc (suc (suc n))))) h = absurd (omega arith)

-- a number of up to four bytes is an offset of every type
narrow_number : (width limit : ℕ) (v : View) → width ≤ 4 → 2 ^ 32 ≤ limit → All IsByte v.bytes → width ≤ bytes_left v
    → number v.is_big (take width v.bytes) < limit
narrow_number width limit v narrow wide bytes there =
    let below = number_below v.is_big (take width v.bytes) (All-take IsByte width v.bytes bytes) in
    let is : 256 ^ length (take width v.bytes) ≡ 256 ^ width =
    ap (λ (n : ℕ). 256 ^ n) (length-take-le width v.bytes there) in
    let power = small_power width narrow in
    omega (arith, below, is, power, wide)

-- ---- one value

-- a form that isn't indirect, by what it spells
attribute_reads : (limit : ℕ) (e : Encoding) (s : Attribute) (kind : Spelling) (x : RawValue)
    (v w : View) → eqb s.form 0x16 ≡ false → spelling e s.form ≡ kind
    → spelled_value limit e s.name s.form s.implicit_const kind v ≡ Ok (x, w)
    → attribute limit e s v ≡ Ok (raw_attribute s.name s.form x, w)
unfolding attribute value
attribute_reads limit e s kind x v w direct spells reads =
    let made = λ (r : Result (RawValue × View) Error). proceed r (λ y. give (raw_attribute s.name s.form y)) in
    ap (λ (r : Result (ℕ × View) Error). proceed r (λ f. attribute_in_form limit e s f))
    (final_form-other s.form v direct)
    ∙ ap (λ (t : Spelling). made (spelled_value limit e s.name s.form s.implicit_const t v)) spells
    ∙ ap made reads

is_read : (limit : ℕ) (e : Encoding) (s : Attribute) (kind : Spelling) (x : RawValue)
    (v w : View) → eqb s.form 0x16 ≡ false → spelling e s.form ≡ kind
    → spelled_value limit e s.name s.form s.implicit_const kind v ≡ Ok (x, w) → IsRead limit e s v w
is_read limit e s kind x v w direct spells reads = record {
  found = raw_attribute s.name s.form x;
  reads = attribute_reads limit e s kind x v w direct spells reads;
}

-- what is spelled as indirect is spelled as nothing else
direct_form : (e : Encoding) (form : ℕ) (kind : Spelling) → spelling e form ≡ kind → (Indirect ≡ kind → ⊥)
    → eqb form 0x16 ≡ false
unfolding spelling
direct_form e form kind spells other = by_test (eqb form 0x16) refl
  where
    by_test : (t : Bool) → eqb form 0x16 ≡ t → t ≡ false
    by_test true is =
        let indirect : spelling e 0x16 ≡ kind =
        subst (λ (f : ℕ). spelling e f ≡ kind) (eqb-true form 0x16 is) spells in
        absurd (other indirect)
    by_test false is = refl

fixed_reads : (n : ℕ) (v : View) → n ≤ bytes_left v → fixed n v ≡ Ok (number v.is_big (take n v.bytes), after n v)
unfolding fixed
fixed_reads n v there = rw (le-ltb (length v.bytes) n there) refl

-- a number that has a meaning
number_reads : (limit : ℕ) (e : Encoding) (s : Attribute) (width : ℕ) (x : RawValue) (v : View) → width ≤ bytes_left v
    → spelling e s.form ≡ Fixed width
    → number_value limit e s.name s.form (number v.is_big (take width v.bytes)) ≡ Ok x
    → IsRead limit e s v (after width v)
number_reads limit e s width x v there spells means =
    is_read limit e s (Fixed width) x v (after width v) (direct_form e s.form (Fixed width) spells (λ is. cc)) spells
    (ap (λ (r : Result (ℕ × View) Error). proceed r (λ k. lift (number_value limit e s.name s.form k)))
    (fixed_reads width v there)
    ∙ ap (λ (r : Result RawValue Error). lift r (after width v)) means)

-- ---- numbers of up to four bytes

offset_fits : (kind : ℕ → RawValue) (limit n : ℕ) → n < limit → offset kind limit n ≡ Ok (kind n)
offset_fits kind limit n below =
    ap (λ (b : Bool). offset_or_fault kind (cond {A = Result ℕ Error} b (Ok n) (Err UnsupportedOffset)))
    (lt-ltb n limit below)

-- each number of a fixed width that offsets can be has a meaning
has_meaning : (width : ℕ) (e : Encoding) (form limit n : ℕ) → Fixed width ≡ spelling e form → ltb n limit ≡ true
    → is_ok (meaning_in meanings form limit n) ≡ true
unfolding spelling
has_meaning width e form limit n h below = grind arith

ok_value : (r : Result RawValue Error) → is_ok r ≡ true → (x : RawValue) × (r ≡ Ok x)
ok_value (Ok x) h = (x, refl)
ok_value (Err e) h = absurd cc

narrow_value : (width : ℕ) (limit : ℕ) (e : Encoding) (name form n : ℕ) → spelling e form ≡ Fixed width → n < limit
    → (x : RawValue) × (number_value limit e name form n ≡ Ok x)
unfolding number_value
narrow_value width limit e name form n spells below = by_test (is_offset_data e name form)
  where
    by_test : (t : Bool)
        → (x : RawValue) × (cond t (offset section_offset limit n) (meaning_in meanings form limit n) ≡ Ok x)
    by_test true = (section_offset n, offset_fits section_offset limit n below)
    by_test false =
        ok_value (meaning_in meanings form limit n)
        (has_meaning width e form limit n (sym spells) (lt-ltb n limit below))

pub narrow_is_sure : (width : ℕ) (e : Encoding) (s : Attribute) → Fixed width ≡ spelling e s.form → width ≤ 4
    → IsSure width e s
narrow_is_sure width e s spells narrow = record {
  at = λ limit v wide bytes there.
      let n = number v.is_big (take width v.bytes) in
      let m = narrow_value width limit e s.name s.form n (sym spells)
      (narrow_number width limit v narrow wide bytes there) in
      number_reads limit e s width m.0 v there (sym spells) m.1;
}

-- ---- numbers of eight bytes

-- no offset under a name that isn't of an offset
plain_value : (limit : ℕ) (e : Encoding) (name form n : ℕ) (x : RawValue) → (eqb name 0x10 || eqb name 0x55) ≡ false
    → meaning_in meanings form limit n ≡ Ok x → number_value limit e name form n ≡ Ok x
unfolding number_value
plain_value limit e name form n x no_offset means =
    by_tests (eqb form (data_of_word e.format)) (eqb name 0x10 || eqb name 0x55) no_offset
  where
    by_tests : (t u : Bool) → u ≡ false
        → cond (t && u) (offset section_offset limit n) (meaning_in meanings form limit n) ≡ Ok x
    by_tests true u none = rw none means
    by_tests false u none = means

abbrev HasMeaning : ℕ → ℕ → ℕ → Type 0
HasMeaning limit n form = (x : RawValue) × (meaning_in meanings form limit n ≡ Ok x)

long_meaning : (form limit n : ℕ) → (eqb form 0x07 || eqb form 0x20) ≡ true → HasMeaning limit n form
long_meaning form limit n h = by_test (eqb form 0x07) refl h
  where
    by_test : (t : Bool) → eqb form 0x07 ≡ t → (t || eqb form 0x20) ≡ true → HasMeaning limit n form
    by_test true is k = subst (HasMeaning limit n) (sym (eqb-true form 0x07 is)) (data_8 n, refl)
    by_test false is k = subst (HasMeaning limit n) (sym (eqb-true form 0x20 k)) (type_reference n, refl)

both : (x y : Bool) → (not x && y) ≡ true → (x ≡ false) × (y ≡ true)
both true y h = absurd cc
both false y h = (refl, h)

pub long_is_sure : (width : ℕ) (e : Encoding) (s : Attribute) → Fixed width ≡ spelling e s.form
    → is_long_number s ≡ true → IsSure width e s
long_is_sure width e s spells is_long =
    let parts = both (eqb s.name 0x10 || eqb s.name 0x55) (eqb s.form 0x07 || eqb s.form 0x20) is_long in
    record {
      at = λ limit v wide bytes there.
          let n = number v.is_big (take width v.bytes) in
          let m = long_meaning s.form limit n parts.1 in
          number_reads limit e s width m.0 v there (sym spells)
          (plain_value limit e s.name s.form n m.0 parts.0 m.1);
    }

-- ---- sixteen bytes, and none

pub sixteen_is_sure : (e : Encoding) (s : Attribute) → Sixteen ≡ spelling e s.form → IsSure 16 e s
sixteen_is_sure e s spells = record {
  at = λ limit v wide bytes there.
      is_read limit e s Sixteen (data_16 (number v.is_big (take 16 v.bytes))) v (after 16 v)
      (direct_form e s.form Sixteen (sym spells) (λ is. cc)) (sym spells)
      (ap (λ (r : Result (ℕ × View) Error). proceed r (λ n. give (data_16 n))) (fixed_reads 16 v there));
}

constant_reads : (limit : ℕ) (e : Encoding) (s : Attribute) (c : ℤ) (v : View) → s.implicit_const ≡ Some c
    → spelled_value limit e s.name s.form s.implicit_const Constant v ≡ Ok (signed_data c, after 0 v)
constant_reads limit e s c v is =
    ap (λ (o : Option ℤ). spelled_value limit e s.name s.form o Constant v) is
    ∙ ap (λ (w : View). Ok (signed_data c, w)) (sym (after-zero v))

pub constant_is_sure : (e : Encoding) (s : Attribute) → Constant ≡ spelling e s.form → is_some s.implicit_const ≡ true
    → IsSure 0 e s
constant_is_sure e s spells has = by_constant s.implicit_const refl has
  where
    by_constant : (o : Option ℤ) → s.implicit_const ≡ o → is_some o ≡ true → IsSure 0 e s
    by_constant None is h = absurd cc
    by_constant (Some c) is h = record {
      at = λ limit v wide bytes there.
          is_read limit e s Constant (signed_data c) v (after 0 v)
          (direct_form e s.form Constant (sym spells) (λ k. cc)) (sym spells) (constant_reads limit e s c v is);
    }

-- ---- bytes of a slice

pub slice_bytes : (bs : List ℕ) → ((k : ℕ) → get_or bs k 0 < 256) → All IsByte bs
slice_bytes bs h = All-from_get_or IsByte bs 0 (λ k _. h k)
