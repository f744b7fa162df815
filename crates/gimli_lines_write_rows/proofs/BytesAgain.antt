-- Parsers that read again what is written, whatever follows it.
use Rattle.std.proofs.Common.{◌≡◌, ℕ, ℤ, suc, ◌+◌, ◌/◌, ◌%◌, ◌<◌, ◌≤◌, ◌^◌, nat_lt, Bool, true, false, cond, List, [], ◌∷◌, ◌++◌, length, take, drop, Ok, Err, refl, sym, ap, subst, ◌∙◌, append_assoc, arith, FitsSigned}
use Rattle.std.specs.Int.{w64}
use Rattle.std.proofs.lemmas.Bool.{le-ltb, lt-ltb}
use Rattle.std.proofs.lemmas.List.{length-append}
use Rattle.gimli_lines_write_bytes.specs.View.{View, unexpected_end}
use Rattle.gimli_lines_write_bytes.specs.Parsers.{Parser, ◌>>=◌, proceed, give, map_value}
use Rattle.gimli_lines_write_bytes.specs.Fixed.{number, number_bytes}
use Rattle.gimli_lines_write_bytes.specs.NumberParsers.{fixed, unsigned, signed}
use Rattle.gimli_lines_write_bytes.specs.Spelling.{unsigned_within, unsigned_string, signed_string}
use Rattle.gimli_lines_write_bytes.proofs.NumberRoundTrip.{unsigned_reads_back, signed_reads_back, fixed_reads_back, length-spelled}

-- after n bytes, where others are
abbrev pub view_after : View → ℕ → List ℕ → View
view_after v n rest = record { bytes = rest; is_big = v.is_big; first = v.first + n }

-- A parser that reads a value from bytes, and leaves what follows them.
pub record Again {A : Type 0} (is_big : Bool) (p : Parser A) (bytes : List ℕ) (x : A) : Type 0 where
  pub read : (rest : List ℕ) (v : View) → v.is_big ≡ is_big → v.bytes ≡ bytes ++ rest
      → p v ≡ Ok (x, view_after v (length bytes) rest)

-- a parser that does the same reads the same
pub reads_same : {A : Type 0} {is_big : Bool} {p : Parser A} {bytes : List ℕ} {x : A} (q : Parser A)
    → ((v : View) → q v ≡ p v) → Again is_big p bytes x → Again is_big q bytes x
reads_same q same a = record { read = λ rest v o e. same v ∙ a.read rest v o e }

pub again_then : {A B : Type 0} {is_big : Bool} {p : Parser A} (f : A → Parser B) {s t : List ℕ} {x : A} {y : B}
    → Again is_big p s x → Again is_big (f x) t y → Again is_big (p >>= f) (s ++ t) y
again_then {A} {B} {is_big} {p} f {s} {t} {x} {y} a b = record {
  read = λ rest v o e.
      ap (λ r. proceed r f) (a.read (t ++ rest) v o (e ∙ append_assoc s t rest))
      ∙ b.read rest (view_after v (length s) (t ++ rest)) o refl
      ∙ ap (λ n. Ok (y, record { bytes = rest; is_big = v.is_big; first = n }))
      (sum v.first (length s) (length t) (length (s ++ t)) (length-append s t));
}
  where
    sum : (a b c d : ℕ) → d ≡ b + c → (a + b) + c ≡ a + d
    sum a b c d e = omega arith

pub again_mapped : {A B : Type 0} {is_big : Bool} {p : Parser A} {s : List ℕ} {x : A} (f : A → B) → Again is_big p s x
    → Again is_big (map_value f p) s (f x)
again_mapped f a = record { read = λ rest v o e. ap (λ r. proceed r (λ y. give (f y))) (a.read rest v o e) }

pub again_give : {A : Type 0} {is_big : Bool} (x : A) → Again is_big (give x) [] x
again_give x = record {
  read = λ rest v o e. ap (λ l. Ok (x, record { bytes = l; is_big = v.is_big; first = v.first }))
      e ∙ ap (λ n. Ok (x, record { bytes = rest; is_big = v.is_big; first = n })) (plus_zero v.first);
}
  where
    plus_zero : (n : ℕ) → n ≡ n + 0
    plus_zero n = omega arith

-- ---- numbers

pub again_unsigned : {is_big : Bool} (n : ℕ) → n < 2 ^ 64 → Again is_big unsigned (unsigned_string n) n
again_unsigned n h = record { read = λ rest v o e. unsigned_reads_back n rest v h e }

pub again_signed : {is_big : Bool} (z : ℤ) → FitsSigned w64 z → Again is_big signed (signed_string z) z
again_signed z h = record { read = λ rest v o e. signed_reads_back z rest v h e }

pub again_fixed : (is_big : Bool) (n x : ℕ) → x < 256 ^ n → Again is_big (fixed n) (number_bytes is_big n x) x
again_fixed is_big n x h = record {
  read = λ rest v o e. fixed_reads_back n x rest v h (e ∙ ap (λ b. number_bytes b n x ++ rest) (sym o))
      ∙ ap (λ k. Ok (x, view_after v k rest)) (sym (length-spelled is_big n x));
}

-- a byte
pub again_byte : {is_big : Bool} (b : ℕ) → Again is_big (fixed 1) (b ∷ []) b
unfolding fixed
again_byte b = record {
  read = λ rest v o e.
      ap (λ l. cond (nat_lt (length l) 1) (Err (unexpected_end v))
      (Ok (number v.is_big (take 1 l), record { bytes = drop 1 l; is_big = v.is_big; first = v.first + 1 }))) e
      ∙ ap (λ c. cond c (Err (unexpected_end v)) (Ok (number v.is_big (b ∷ []), view_after v 1 rest)))
      (le-ltb (suc (length rest)) 1 (some (length rest)))
      ∙ ap (λ n. Ok (n, view_after v 1 rest)) (one v.is_big);
}
  where
    some : (n : ℕ) → 1 ≤ suc n
    some n = omega arith

    one : (is : Bool) → number is (b ∷ []) ≡ b
    one true = omega arith
    one false = omega arith

-- a number below 128 in one byte
pub again_small : {is_big : Bool} (n : ℕ) → n < 128 → Again is_big unsigned (n ∷ []) n
unfolding unsigned_within
again_small {is_big} n h = subst (λ s. Again is_big unsigned s n) string (again_unsigned n (omega arith))
  where
    string : unsigned_string n ≡ n ∷ []
    string = ap (λ c. cond c (n ∷ []) ((128 + n % 128) ∷ unsigned_within 9 (n / 128))) (lt-ltb n 128 h)
