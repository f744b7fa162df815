-- Numbers are read again from any prefix of their bytes that has them.
use Rattle.std.proofs.Common.{◌≡◌, ℕ, zero, suc, ◌^◌, ◌<◌, ◌≤◌, Bool, true, false, cond, ltb, List, [], ◌∷◌, length, take, Option, Some, option_map, Result, Ok, Err, refl, sym, ap, ◌∙◌, arith, inl, inr, ◌⊎◌}
use Rattle.std.specs.Prelude.{ℤ}
use Rattle.std.specs.Option.{ok_or}
use Rattle.std.proofs.lemmas.List.{take-take, length-take, take_all}
use Rattle.std.proofs.lemmas.Bool.{le-ltb, lt-ltb, cases_lt}
use Rattle.gimli_core_readers.specs.Error.{Error}
use Rattle.gimli_core_readers.specs.Error.TheVariants.{BadUnsignedLeb128, BadSignedLeb128}
use Rattle.gimli_core_readers.specs.View.{View, after, prefix, bytes_left, unexpected_end}
use Rattle.gimli_core_readers.proofs.StepParts.{read, value_is, state_is}
use Rattle.gimli_core_readers.specs.Fault.{Fault}
use Rattle.gimli_core_readers.specs.Fault.TheVariants.{Cut, Bad}
use Rattle.gimli_core_readers.specs.Fixed.{number}
use Rattle.gimli_core_readers.specs.Leb128.{leb_string, bounded_string, unsigned_of, signed_of, unsigned_number, signed_number, fits_i64}
use Rattle.gimli_core_readers.specs.NumberParsers.{fixed, number_and_rest, unsigned, signed}
use Rattle.gimli_core_readers.proofs.NumberReadSizes.{judged_fits_in, found_is}
use Rattle.gimli_core_readers.proofs.LebStrings.{map_some, string_at-last, string_at-goes_on}
use Rattle.gimli_lines_machine.proofs.CutBytes.{ReadsCutAt, ReadsCut, long_enough}

-- ---- fixed numbers

abbrev end_of_bytes : View → Result (ℕ × View) Error
end_of_bytes v = Err (unexpected_end v)

abbrev fixed_at : ℕ → View → Bool → Result (ℕ × View) Error
fixed_at k v b = cond b (end_of_bytes v) (Ok (number v.is_big (take k v.bytes), after k v))

pub cut-fixed : (k : ℕ) → ReadsCut k (fixed k)
unfolding fixed
cut-fixed k = record { each = λ v w x e. cases v w x e (cases_lt (bytes_left v) k) }
  where
    reads_whole : (v w : View) (x : ℕ) → k ≤ bytes_left v → fixed_at k v (ltb (bytes_left v) k) ≡ Ok (x, w)
        → ReadsCutAt k (fixed k) v w x
    reads_whole v w x fits e =
        let is : read (number v.is_big (take k v.bytes)) (after k v) ≡ Ok (x, w) =
        ap (fixed_at k v) (sym (le-ltb (bytes_left v) k fits)) ∙ e in
        record {
          count = k;
          some = omega arith;
          fits = fits;
          rest = sym (state_is (number v.is_big (take k v.bytes)) x (after k v) w is);
          again = λ n le.
              ap (fixed_at k (prefix n v)) (long_enough k n v fits le)
              ∙ ap (λ (bytes : List ℕ). read (number v.is_big bytes) (after k (prefix n v))) (take-take k n v.bytes le)
              ∙ ap (λ (y : ℕ). read y (after k (prefix n v)))
              (value_is (number v.is_big (take k v.bytes)) x (after k v) w is);
        }

    cases : (v w : View) (x : ℕ) → fixed_at k v (ltb (bytes_left v) k) ≡ Ok (x, w) → (bytes_left v < k)
        ⊎ (k ≤ bytes_left v) → ReadsCutAt k (fixed k) v w x
    cases v w x e (inl short) = absurd (no_value (ap (fixed_at k v) (sym (lt-ltb (bytes_left v) k short)) ∙ e))
      where
        no_value : end_of_bytes v ≡ Ok (x, w) → ⊥
        no_value h = cc
    cases v w x e (inr fits) = reads_whole v w x fits e

-- ---- LEB128

-- a string that ends within the first n bytes
pub string_cut : (bytes string : List ℕ) (n : ℕ) → leb_string bytes ≡ Some string → length string ≤ n
    → leb_string (take n bytes) ≡ Some string
string_cut [] string n e le = absurd cc
string_cut (b ∷ bytes) string zero e le = elim (cases_lt b 128) [
  | inl last ↦ let is : b ∷ [] ≡ string =
      some_is (b ∷ []) string (sym (string_at-last b bytes last) ∙ e) in absurd (omega (arith, ap length is))
  | inr more ↦ let m = map_some b (leb_string bytes) string (sym (string_at-goes_on b bytes more) ∙ e) in
      absurd (omega (arith, ap length m.2))
]
  where
    some_is : (x y : List ℕ) → Some x ≡ Some y → x ≡ y
    some_is x y h = cc
string_cut (b ∷ bytes) string (suc n) e le = elim (cases_lt b 128) [
  | inl last ↦ string_at-last b (take n bytes) last ∙ sym (string_at-last b bytes last) ∙ e
  | inr more ↦
      let m = map_some b (leb_string bytes) string (sym (string_at-goes_on b bytes more) ∙ e) in
      let shorter : length m.0 ≤ n = omega (arith, ap length m.2) in
      string_at-goes_on b (take n bytes) more
      ∙ ap (option_map (λ (t : List ℕ). b ∷ t)) (string_cut bytes m.0 n m.1 shorter) ∙ ap some m.2
]
  where
    some : List ℕ → Option (List ℕ)
    some t = Some t

take_both : (m n : ℕ) (xs : List ℕ) → take m (take n xs) ≡ take n (take m xs)
take_both m n xs = elim (cases_lt m n) [
  | inl lt ↦ take-take m n xs (omega arith) ∙ sym (shorter (take m xs) n (omega (arith, length-take m xs)))
  | inr ge ↦ shorter (take n xs) m (omega (arith, length-take n xs)) ∙ sym (take-take n m xs ge)
]
  where
    shorter : (ys : List ℕ) (k : ℕ) → length ys ≤ k → take k ys ≡ ys
    shorter ys k le = take_all k ys le

bounded_string_cut : (limit n : ℕ) (bytes string : List ℕ) → bounded_string limit bytes ≡ Ok string → length string ≤ n
    → bounded_string limit (take n bytes) ≡ Ok string
bounded_string_cut limit n bytes string e le =
    let there : leb_string (take limit bytes) ≡ Some string = found_is (leb_string (take limit bytes)) _ string e in
    let same_string : leb_string (take limit (take n bytes)) ≡ Some string = ap leb_string (take_both limit n bytes)
    ∙ string_cut (take limit bytes) string n there le in
    ap (λ (o : Option (List ℕ)). ok_or o (cond (ltb (length (take n bytes)) limit) Cut Bad)) same_string

-- a number and the length of its string, by what the string is
abbrev CountsString : {A : Type 0} → (Result (List ℕ) Fault → Result (A × ℕ) Fault) → Type 0
CountsString {A} f =
    (r : Result (List ℕ) Fault) (x : A) (k : ℕ) → f r ≡ Ok (x, k) → (s : List ℕ) × (r ≡ Ok s) × (length s ≡ k)

pub cut-after : {A : Type 0} (bad : Error) (f : Result (List ℕ) Fault → Result (A × ℕ) Fault) → CountsString f
    → (v w : View) (x : A) → number_and_rest bad v (f (bounded_string 10 v.bytes)) ≡ Ok (x, w)
    → ReadsCutAt 1 (λ u. number_and_rest bad u (f (bounded_string 10 u.bytes))) v w x
cut-after {A} bad f number_result v w x e = cases (f (bounded_string 10 v.bytes)) refl e
  where
    there : (k : ℕ) → f (bounded_string 10 v.bytes) ≡ Ok (x, k) → w ≡ after k v
        → ReadsCutAt 1 (λ u. number_and_rest bad u (f (bounded_string 10 u.bytes))) v w x
    there k is at =
        let string = number_result (bounded_string 10 v.bytes) x k is in
        let string_fits = judged_fits_in 10 v.bytes string.0 string.1 in
        let some : 0 < length string.0 = string_fits.some in
        let fits : length string.0 ≤ bytes_left v = string_fits.fits in
        let long : length string.0 ≡ k = string.2 in
        record {
          count = k;
          some = omega arith;
          fits = omega arith;
          rest = at;
          again = λ n le.
              let short : length string.0 ≤ n = omega arith in
              ap (λ (r : Result (List ℕ) Fault). number_and_rest bad (prefix n v) (f r))
              (bounded_string_cut 10 n v.bytes string.0 string.1 short ∙ sym string.1)
              ∙ ap (number_and_rest bad (prefix n v)) is;
        }

    cases : (r : Result (A × ℕ) Fault) → f (bounded_string 10 v.bytes) ≡ r → number_and_rest bad v r ≡ Ok (x, w)
        → ReadsCutAt 1 (λ u. number_and_rest bad u (f (bounded_string 10 u.bytes))) v w x
    cases (Err fault) is h = absurd cc
    cases (Ok found) is h =
        let same : found.0 ≡ x = value_is found.0 x (after found.1 v) w h in
        there found.1 (is ∙ ap (λ (y : A). numbered_as y found.1) same) (sym (state_is found.0 x (after found.1 v) w h))
      where
        numbered_as : A → ℕ → Result (A × ℕ) Fault
        numbered_as y k = Ok (y, k)

abbrev strings : List ℕ → Result (List ℕ) Fault
strings s = Ok s

abbrev number_result : ℕ × ℕ → Result (ℕ × ℕ) Fault
number_result p = Ok p

abbrev numbered_z : ℤ × ℕ → Result (ℤ × ℕ) Fault
numbered_z p = Ok p

unsigned_numbered : CountsString (unsigned_of (2 ^ 64))
unsigned_numbered (Err fault) x k e = absurd cc
unsigned_numbered (Ok s) x k e = cases (ltb (unsigned_number s) (2 ^ 64)) refl
  where
    cases : (b : Bool) → ltb (unsigned_number s) (2 ^ 64) ≡ b → (t : List ℕ) × (strings s ≡ Ok t) × (length t ≡ k)
    cases true h =
        let e' : number_result (unsigned_number s, length s) ≡ Ok (x, k) = rw h at e in
        let is : (unsigned_number s, length s) ≡ (x, k) = cc in
        (s, refl, ap (λ (p : ℕ × ℕ). p.1) is)
    cases false h = absurd (let e' = rw h at e in cc)

signed_numbered : CountsString signed_of
signed_numbered (Err fault) x k e = absurd cc
signed_numbered (Ok s) x k e = cases (fits_i64 (signed_number s)) refl
  where
    cases : (b : Bool) → fits_i64 (signed_number s) ≡ b → (t : List ℕ) × (strings s ≡ Ok t) × (length t ≡ k)
    cases true h =
        let e' : numbered_z (signed_number s, length s) ≡ Ok (x, k) = rw h at e in
        let is : (signed_number s, length s) ≡ (x, k) = cc in
        (s, refl, ap (λ (p : ℤ × ℕ). p.1) is)
    cases false h = absurd (let e' = rw h at e in cc)

pub cut-unsigned : ReadsCut 1 unsigned
unfolding unsigned
cut-unsigned = record {
  each = λ v w x e. let k = cut-after BadUnsignedLeb128 (unsigned_of (2 ^ 64)) unsigned_numbered v
      w x e in record { count = k.count; some = k.some; fits = k.fits; rest = k.rest; again = k.again };
}

pub cut-signed : ReadsCut 1 signed
unfolding signed
cut-signed = record {
  each = λ v w x e. let k = cut-after BadSignedLeb128 signed_of signed_numbered v w x e in
      record { count = k.count; some = k.some; fits = k.fits; rest = k.rest; again = k.again };
}
