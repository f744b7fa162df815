-- How many bytes a number takes.
use Rattle.std.proofs.Common.{ℕ, ℤ, zero, suc, ◌+◌, ◌≤◌, Bool, true, false, cond, List, [], ◌∷◌, length, arith}
use Rattle.std.specs.Int.{int_shr}
use Rattle.linemap_emit_units.specs.Format.{Format}
use Rattle.linemap_emit_units.specs.Format.TheVariants.{Dwarf32, Dwarf64}
use Rattle.linemap_emit_units.specs.FormatSizes.{word_size}
use Rattle.linemap_emit_units.specs.Spelling.{unsigned_string, signed_string, signed_within, signed_digit, is_digit}
use Rattle.linemap_emit_units.proofs.EntryDecoding.{length-within}

pub length-unsigned : (n : ℕ) → length (unsigned_string n) ≤ 10
length-unsigned n = length-within 10 n

signed_bound : (k : ℕ) (z : ℤ) → length (signed_within k z) ≤ k
unfolding signed_within
signed_bound zero z = omega arith
signed_bound (suc k) z = by (is_digit z) (signed_bound k (int_shr z 7))
  where
    by : (b : Bool) → length (signed_within k (int_shr z 7)) ≤ k
        → length (cond b (signed_digit z ∷ []) ((128 + signed_digit z) ∷ signed_within k (int_shr z 7))) ≤ suc k
    by true h = omega arith
    by false h = omega arith

pub length-signed : (z : ℤ) → length (signed_string z) ≤ 10
length-signed z = signed_bound 10 z

-- an offset's bytes
pub word_few : (f : Format) → word_size f ≤ 8
word_few Dwarf32 = omega arith
word_few Dwarf64 = omega arith

-- either of two lists
pub length-cond : (b : Bool) (xs ys : List ℕ) (n : ℕ) → length xs ≤ n → length ys ≤ n → length (cond b xs ys) ≤ n
length-cond true xs ys n g h = g
length-cond false xs ys n g h = h
