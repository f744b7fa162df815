-- How much the numbers take of the bytes: what a repetition needs to end.
use Rattle.std.proofs.Common.{◌≡◌, ℕ, ◌<◌, ◌≤◌, Bool, true, false, List, [], ◌∷◌, length, take, Option, Some, None, Result, Ok, Err, refl, sym, ap, ◌∙◌, inl, inr, arith, length-drop}
use Rattle.std.specs.Prelude.{nat_lt, ◌^◌}
use Rattle.std.specs.Option.{ok_or}
use Rattle.std.specs.Int.{Width}
use Rattle.std.proofs.lemmas.Bool.{cases_lt, lt-ltb, le-ltb}
use Rattle.std.proofs.lemmas.List.{length-take}
use Rattle.gimli_core_base.specs.declared.error.Error.{Error}
use Rattle.gimli_core_base.specs.declared.error.Error.TheVariants.{BadUnsignedLeb128, BadSignedLeb128}
use Rattle.gimli_core_base.specs.View.{View, bytes_left}
use Rattle.gimli_core_base.proofs.StepSizes.{AtMost, Below, AtMost-Ok, Below-Ok, AtMost-Err, Below-Err, AtMost-cond, sizes}
use Rattle.gimli_core_base.specs.declared.common.Format.{Format}
use Rattle.gimli_core_base.specs.declared.common.Format.TheVariants.{Dwarf32, Dwarf64}
use Rattle.gimli_core_base.specs.FormatSizes.{word_size}
use Rattle.gimli_core_base.specs.declared.leb128.Fault.{Fault}
use Rattle.gimli_core_base.specs.Leb128.{leb_string, unsigned_number, signed_number, fits_i64, bounded_string, unsigned_of, unsigned_at, signed_of, signed_at}
use Rattle.gimli_core_base.specs.NumberParsers.{fixed, fixed_signed, number_and_rest, rest_after_string, unsigned, unsigned_16, unsigned_32, signed, skip_leb, sized_offset, word, initial_length, address_size, address}
use Rattle.gimli_core_base.proofs.LebStrings.{map_some, string_at-last, string_at-goes_on}

-- ---- fixed numbers

pub AtMost-fixed : {n : ℕ} (k : ℕ) (v : View) → bytes_left v ≤ n → AtMost bytes_left n (fixed k v)
unfolding fixed
AtMost-fixed {n} k v h = AtMost-cond _ AtMost-Err (AtMost-Ok (omega (arith, length-drop k v.bytes)))

pub Below-fixed : {n : ℕ} (k : ℕ) (v : View) → 0 < k → bytes_left v ≤ n → Below bytes_left n (fixed k v)
unfolding fixed
Below-fixed {n} k v some h = elim (cases_lt (length v.bytes) k) [
  | inl short ↦ rw (lt-ltb (length v.bytes) k short) Below-Err
  | inr long ↦ rw (le-ltb (length v.bytes) k long) (Below-Ok (omega (arith, length-drop k v.bytes)))
]

-- ---- LEB128

abbrev read : {A : Type 0} → A → ℕ → Result (A × ℕ) Fault
read x k = Ok (x, k)

pair_is : {A : Type 0} (x y : A) (m k : ℕ) → read x m ≡ read y k → m ≡ k
pair_is {A} x y m k e = let is : (x, m) ≡ (y, k) = cc in ap (λ (p : A × ℕ). p.1) is

-- a string has a byte, and no more of them than the bytes that it is in
pub record FitsIn (string bytes : List ℕ) : Type 0 where
  pub some : 0 < length string
  pub fits : length string ≤ length bytes

pub string_fits_in : (bytes string : List ℕ) → leb_string bytes ≡ Some string → FitsIn string bytes
string_fits_in [] string e = absurd cc
string_fits_in (b ∷ bytes) string e = elim (cases_lt b 128) [
  | inl last ↦
      let is : b ∷ [] ≡ string = some_is (b ∷ []) string (sym (string_at-last b bytes last) ∙ e) in
      rw (← is) (record { some = omega arith; fits = omega arith })
  | inr more ↦
      let m = map_some b (leb_string bytes) string (sym (string_at-goes_on b bytes more) ∙ e) in
      let rest = string_fits_in bytes m.0 m.1 in
      rw (← m.2) (record { some = omega arith; fits = omega (arith, rest.fits) })
]
  where
    some_is : (x y : List ℕ) → Some x ≡ Some y → x ≡ y
    some_is x y h = cc

-- the string that was found
pub found_is : (o : Option (List ℕ)) (fault : Fault) (string : List ℕ) → ok_or o fault ≡ Ok string → o ≡ Some string
found_is None fault string e = absurd cc
found_is (Some s) fault string e = cc

pub judged_fits_in : (limit : ℕ) (bytes string : List ℕ) → bounded_string limit bytes ≡ Ok string → FitsIn string bytes
judged_fits_in limit bytes string e =
    let inner = string_fits_in (take limit bytes) string (found_is (leb_string (take limit bytes)) _ string e) in
    record { some = inner.some; fits = omega (arith, inner.fits, length-take limit bytes) }

-- a read takes the bytes of a string
abbrev Takes : {A : Type 0} → View → Result (A × ℕ) Fault → Type 0
Takes {A} v r = (x : A) (k : ℕ) → r ≡ Ok (x, k) → (0 < k) × (k ≤ bytes_left v)

Below-rest : {A : Type 0} {n : ℕ} (bad : Error) (v : View) (r : Result (A × ℕ) Fault) → Takes v r → bytes_left v ≤ n
    → Below bytes_left n (number_and_rest bad v r)
Below-rest {A} {n} bad v (Ok found) t h =
    let some = t found.0 found.1 refl in Below-Ok (omega (arith, length-drop found.1 v.bytes, some))
Below-rest {A} {n} bad v (Err fault) t h = Below-Err

unsigned_takes : (bound : ℕ) (v : View) (r : Result (List ℕ) Fault) → ((s : List ℕ) → r ≡ Ok s → FitsIn s v.bytes)
    → Takes v (unsigned_of bound r)
unsigned_takes bound v (Err fault) string_fits x k e = absurd cc
unsigned_takes bound v (Ok s) string_fits x k e = cases (nat_lt (unsigned_number s) bound) refl
  where
    cases : (b : Bool) → nat_lt (unsigned_number s) bound ≡ b → (0 < k) × (k ≤ bytes_left v)
    cases true h =
        let e' = rw h at e in
        let is : length s ≡ k = pair_is (unsigned_number s) x (length s) k e' in
        let found = string_fits s refl in
        rw (← is) (found.some, found.fits)
    cases false h = absurd (let e' = rw h at e in cc)

signed_takes : (v : View) (r : Result (List ℕ) Fault) → ((s : List ℕ) → r ≡ Ok s → FitsIn s v.bytes)
    → Takes v (signed_of r)
signed_takes v (Err fault) string_fits x k e = absurd cc
signed_takes v (Ok s) string_fits x k e = cases (fits_i64 (signed_number s)) refl
  where
    cases : (b : Bool) → fits_i64 (signed_number s) ≡ b → (0 < k) × (k ≤ bytes_left v)
    cases true h =
        let e' = rw h at e in
        let is : length s ≡ k = pair_is (signed_number s) x (length s) k e' in
        let found = string_fits s refl in
        rw (← is) (found.some, found.fits)
    cases false h = absurd (let e' = rw h at e in cc)

pub Below-unsigned : {n : ℕ} (v : View) → bytes_left v ≤ n → Below bytes_left n (unsigned v)
unfolding unsigned
Below-unsigned v h =
    Below-rest BadUnsignedLeb128 v (unsigned_at 10 (2 ^ 64) v.bytes)
    (unsigned_takes (2 ^ 64) v (bounded_string 10 v.bytes) (judged_fits_in 10 v.bytes)) h

pub Below-unsigned_16 : {n : ℕ} (v : View) → bytes_left v ≤ n → Below bytes_left n (unsigned_16 v)
unfolding unsigned_16
Below-unsigned_16 v h =
    Below-rest BadUnsignedLeb128 v (unsigned_at 3 (2 ^ 16) v.bytes)
    (unsigned_takes (2 ^ 16) v (bounded_string 3 v.bytes) (judged_fits_in 3 v.bytes)) h

pub Below-signed : {n : ℕ} (v : View) → bytes_left v ≤ n → Below bytes_left n (signed v)
unfolding signed
Below-signed v h =
    Below-rest BadSignedLeb128 v (signed_at v.bytes)
    (signed_takes v (bounded_string 10 v.bytes) (judged_fits_in 10 v.bytes)) h

pub Below-skipped : {n : ℕ} (v : View) → bytes_left v ≤ n → Below bytes_left n (skip_leb v)
unfolding skip_leb
Below-skipped {n} v h = cases (leb_string v.bytes) refl
  where
    cases : (o : Option (List ℕ)) → leb_string v.bytes ≡ o → Below bytes_left n (rest_after_string v o)
    cases None e = Below-Err
    cases (Some s) e = let found = string_fits_in v.bytes s e in Below-Ok
        (omega (arith, length-drop (length s) v.bytes, found))

ruleset basic = (sizes, AtMost-fixed, Below-fixed, Below-unsigned, Below-unsigned_16, Below-signed, Below-skipped)

-- ---- what is made of them

pub AtMost-fixed_signed : {n : ℕ} (w : Width) (v : View) → bytes_left v ≤ n → AtMost bytes_left n (fixed_signed w v)
unfolding fixed_signed
AtMost-fixed_signed {n} w v h = search (arith, basic) depth 40

pub Below-unsigned_32 : {n : ℕ} (v : View) → bytes_left v ≤ n → Below bytes_left n (unsigned_32 v)
unfolding unsigned_32
Below-unsigned_32 {n} v h = search (arith, basic) depth 40

pub AtMost-sized_offset : {n : ℕ} (limit k : ℕ) (v : View) → bytes_left v ≤ n
    → AtMost bytes_left n (sized_offset limit k v)
unfolding sized_offset
AtMost-sized_offset {n} limit k v h = search (arith, basic) depth 40

pub Below-sized_offset : {n : ℕ} (limit k : ℕ) (v : View) → 0 < k → bytes_left v ≤ n
    → Below bytes_left n (sized_offset limit k v)
unfolding sized_offset
Below-sized_offset {n} limit k v some h = search (arith, basic) depth 40

pub Below-word : {n : ℕ} (limit : ℕ) (format : Format) (v : View) → bytes_left v ≤ n
    → Below bytes_left n (word limit format v)
unfolding word
Below-word {n} limit format v h = Below-sized_offset limit (word_size format) v (some format) h
  where
    some : (f : Format) → 0 < word_size f
    some Dwarf32 = omega arith
    some Dwarf64 = omega arith

pub Below-initial_length : {n : ℕ} (limit : ℕ) (v : View) → bytes_left v ≤ n
    → Below bytes_left n (initial_length limit v)
unfolding initial_length fixed sized_offset
Below-initial_length {n} limit v h = search (arith, basic, AtMost-sized_offset, Below-sized_offset) depth 40

pub Below-address_size : {n : ℕ} (v : View) → bytes_left v ≤ n → Below bytes_left n (address_size v)
unfolding address_size
Below-address_size {n} v h = search (arith, basic) depth 40

pub AtMost-address : {n : ℕ} (k : ℕ) (v : View) → bytes_left v ≤ n → AtMost bytes_left n (address k v)
unfolding address
AtMost-address {n} k v h = search (arith, basic) depth 40

-- the facts above, for `search`, beside those of the lowest crate
pub ruleset number_sizes = (
  AtMost-fixed,
  Below-fixed,
  Below-unsigned,
  Below-unsigned_16,
  Below-signed,
  Below-skipped,
  AtMost-fixed_signed,
  Below-unsigned_32,
  AtMost-sized_offset,
  Below-sized_offset,
  Below-word,
  Below-initial_length,
  Below-address_size,
  AtMost-address,
)
