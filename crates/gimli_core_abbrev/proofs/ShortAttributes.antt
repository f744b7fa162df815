-- Attributes whose name and form are a byte each, and codes of one byte.
use Rattle.std.proofs.Common.{◌≡◌, ◌≢◌, ℕ, ◌+◌, ◌*◌, ◌<◌, ◌≤◌, eqb, ltb, Bool, false, cond, ◌&&◌, List, [], ◌∷◌, length, take, drop, get_or, Option, Some, None, Result, Ok, Err, refl, sym, ap, ◌∙◌, arith}
use Rattle.std.specs.Prelude.{◌%◌, ◌^◌}
use Rattle.std.specs.Option.{ok_or}
use Rattle.std.proofs.Math.Nat.{mod-eq_of_lt}
use Rattle.std.proofs.lemmas.Bool.{lt-ltb, ne_eqb}
use Rattle.gimli_core_readers.specs.Error.{Error}
use Rattle.gimli_core_readers.specs.Error.TheVariants.{BadUnsignedLeb128}
use Rattle.gimli_core_readers.specs.Fault.{Fault}
use Rattle.gimli_core_readers.specs.Fault.TheVariants.{Cut, Bad}
use Rattle.gimli_core_readers.specs.View.{View, after}
use Rattle.gimli_core_readers.specs.Parsers.{proceed, give, branch, ◌>>=◌}
use Rattle.gimli_core_readers.specs.Leb128.{unsigned_of, unsigned_at}
use Rattle.gimli_core_readers.specs.NumberParsers.{number_and_rest, unsigned, unsigned_16}
use Rattle.gimli_core_readers.proofs.LebStrings.{string_at-last}
use Rattle.gimli_core_readers.proofs.ViewCuts.{after-after}
use Rattle.gimli_core_abbrev.specs.TableParsing.{implicit_const_form, implicit_const, attribute_of, attribute, IsShortAttribute}

abbrev numbered : View → Result (ℕ × ℕ) Fault → Result (ℕ × View) Error
numbered v r = number_and_rest BadUnsignedLeb128 v r

-- a byte below 128 is a number by itself
pub one_byte : (v : View) (n : ℕ) (rest : List ℕ) → v.bytes ≡ n ∷ rest → n < 128 → unsigned_16 v ≡ Ok (n, after 1 v)
unfolding unsigned_16
one_byte v n rest e low =
    let small : n % 128 ≡ n = mod-eq_of_lt low in
    let number : n % 128 * 1 + 0 ≡ n = omega (arith, small) in
    ap (λ (bytes : List ℕ). numbered v (unsigned_at 3 65536 bytes)) e
    ∙ ap (λ (string : Option (List ℕ)). numbered v (unsigned_of 65536
    (ok_or string (cond (ltb (length (n ∷ rest)) 3) Cut Bad)))) (string_at-last n (take 2 rest) low)
    ∙ ap (λ (k : ℕ). numbered v (cond (ltb k 65536) (Ok (k, 1)) (Err Bad))) number
    ∙ ap (λ (b : Bool). numbered v (cond b (Ok (n, 1)) (Err Bad))) (lt-ltb n 65536 (omega (arith, low)))

pub one_byte_code : (v : View) (n : ℕ) (rest : List ℕ) → v.bytes ≡ n ∷ rest → n < 128 → unsigned v ≡ Ok (n, after 1 v)
unfolding unsigned
one_byte_code v n rest e low =
    let small : n % 128 ≡ n = mod-eq_of_lt low in
    let number : n % 128 * 1 + 0 ≡ n = omega (arith, small) in
    ap (λ (bytes : List ℕ). numbered v (unsigned_at 10 (2 ^ 64) bytes)) e
    ∙ ap (λ (string : Option (List ℕ)). numbered v (unsigned_of (2 ^ 64)
    (ok_or string (cond (ltb (length (n ∷ rest)) 10) Cut Bad)))) (string_at-last n (take 9 rest) low)
    ∙ ap (λ (k : ℕ). numbered v (cond (ltb k (2 ^ 64)) (Ok (k, 1)) (Err Bad))) number
    ∙ ap (λ (b : Bool). numbered v (cond b (Ok (n, 1)) (Err Bad))) (lt-ltb n (2 ^ 64) (omega (arith, low)))

-- the first byte of these, as a code
pub first_code : (v : View) (bytes : List ℕ) (n d : ℕ) → bytes ≡ v.bytes → 1 ≤ length bytes → n ≡ get_or bytes 0 d
    → n < 128 → unsigned v ≡ Ok (n, after 1 v)
first_code v [] n d same some is low = absurd (omega (arith, some))
first_code v (b ∷ bytes) n d same some is low =
    one_byte_code v n bytes (sym same ∙ ap (λ (k : ℕ). k ∷ bytes) (sym is)) low

-- two bytes below 128 are a name and a form
pair_read : (v : View) (name form : ℕ) (rest : List ℕ) → v.bytes ≡ name ∷ form ∷ rest → name < 128 → form < 128
    → attribute v
    ≡ branch (eqb name 0 && eqb form 0) (give None) (attribute_of name form) (after 2 v)
unfolding attribute
pair_read v name form rest e low_name low_form =
    ap (λ (r : Result (ℕ × View) Error). proceed r (λ n. unsigned_16 >>= λ f.
    branch (eqb n 0 && eqb f 0) (give None) (attribute_of n f))) (one_byte v name (form ∷ rest) e low_name)
    ∙ ap (λ (r : Result (ℕ × View) Error). proceed r (λ f.
    branch (eqb name 0 && eqb f 0) (give None) (attribute_of name f)))
    (one_byte (after 1 v) form rest (ap (drop 1) e) low_form)
    ∙ ap (branch (eqb name 0 && eqb form 0) (give None) (attribute_of name form)) (after-after 1 1 v)

-- an attribute that holds no value
plain : (name form : ℕ) (v : View) → eqb name 0 ≡ false → eqb form 0 ≡ false → eqb form implicit_const_form ≡ false
    → attribute_of name form v ≡ Ok (Some (record { name = name; form = form; implicit_const = None }), v)
unfolding attribute_of implicit_const
plain name form v named formed no_value = rw (named, formed, no_value) refl

-- the pair of zeros
pub short_none : (bytes : List ℕ) (a b name form : ℕ) → 2 ≤ length bytes → name ≡ get_or bytes 0 a
    → form ≡ get_or bytes 1 b → name ≡ 0 → form ≡ 0 → IsShortAttribute bytes None
short_none [] a b name form le at_0 at_1 is_name is_form = absurd (omega (arith, le))
short_none (x ∷ []) a b name form le at_0 at_1 is_name is_form = absurd (omega (arith, le))
short_none (x ∷ y ∷ rest) a b name form le at_0 at_1 is_name is_form = (
  le,
  λ v e.
      pair_read v x y rest e (omega (arith, at_0, is_name)) (omega (arith, at_1, is_form))
      ∙ rw (← at_0, is_name, ← at_1, is_form) refl,
)

-- an attribute
pub short_some : (bytes : List ℕ) (a b name form : ℕ) → 2 ≤ length bytes → name ≡ get_or bytes 0 a
    → form ≡ get_or bytes 1 b → name < 128 → form < 128 → name ≢ 0 → form ≢ 0 → form ≢ implicit_const_form
    → IsShortAttribute bytes (Some (record { name = name; form = form; implicit_const = None }))
short_some [] a b name form le at_0 at_1 low_name low_form named formed no_value = absurd (omega (arith, le))
short_some (x ∷ []) a b name form le at_0 at_1 low_name low_form named formed no_value = absurd (omega (arith, le))
short_some (x ∷ y ∷ rest) a b name form le at_0 at_1 low_name low_form named formed no_value = (
  le,
  λ v e.
      pair_read v name form rest
      (e ∙ ap (λ (k : ℕ). k ∷ y ∷ rest) (sym at_0) ∙ ap (λ (k : ℕ). name ∷ k ∷ rest) (sym at_1)) low_name low_form
      ∙ rw (ne_eqb name 0 named) refl
      ∙ plain name form (after 2 v) (ne_eqb name 0 named) (ne_eqb form 0 formed)
      (ne_eqb form implicit_const_form no_value),
)
