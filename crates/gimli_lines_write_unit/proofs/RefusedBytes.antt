-- Bytes that are written or refused.
use Rattle.std.proofs.Common.{◌≡◌, ℕ, ◌^◌, nat_lt, Bool, true, false, cond, List, [], ◌∷◌, ◌++◌, Ok, Err, refl}
use Rattle.gimli_lines_write_tables.specs.Format.{Format}
use Rattle.gimli_lines_write_tables.specs.Format.TheVariants.{Dwarf32, Dwarf64}
use Rattle.gimli_lines_write_tables.specs.FormatSizes.{word_size}
use Rattle.gimli_lines_write_tables.specs.Fixed.{number_bytes}
use Rattle.gimli_lines_write_tables.specs.NumberBytes.{bytes_in_width}
use Rattle.gimli_lines_write_tables.specs.WriteError.{Error}
use Rattle.gimli_lines_write_tables.specs.WriteError.TheVariants.{ValueTooLarge}
use Rattle.gimli_lines_write_tables.specs.EntryBytes.{join_bytes}
use Rattle.gimli_lines_write_unit.specs.HeaderBytes.{bytes_or_refusal, offset_refusals}

-- bytes, and others after them
pub joined : (rs ss : List Error) (a b : List ℕ)
    → join_bytes (bytes_or_refusal rs a) (bytes_or_refusal ss b) ≡ bytes_or_refusal (rs ++ ss) (a ++ b)
joined [] [] a b = refl
joined [] (e ∷ ss) a b = refl
joined (e ∷ rs) ss a b = refl

-- a number of a format's size
pub word_is : (is_big : Bool) (format : Format) (n : ℕ) → bytes_in_width is_big (word_size format) n
    ≡ bytes_or_refusal (offset_refusals format n) (number_bytes is_big (word_size format) n)
word_is is_big Dwarf32 n = by (nat_lt n (256 ^ 4))
  where
    by : (b : Bool) → cond b (Ok (number_bytes is_big 4 n)) (Err ValueTooLarge)
        ≡ bytes_or_refusal (cond b [] (ValueTooLarge ∷ [])) (number_bytes is_big 4 n)
    by true = refl
    by false = refl
word_is is_big Dwarf64 n = by (nat_lt n (256 ^ 8))
  where
    by : (b : Bool) → cond b (Ok (number_bytes is_big 8 n)) (Err ValueTooLarge)
        ≡ bytes_or_refusal (cond b [] (ValueTooLarge ∷ [])) (number_bytes is_big 8 n)
    by true = refl
    by false = refl
