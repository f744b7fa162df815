-- How wide a number or a length may be.
use Rattle.std.proofs.Common.{◌≡◌, ℕ, ◌≤◌, arith}
use Rattle.gimli_core_abbrev.specs.Encoding.{Encoding}
use Rattle.gimli_units_forms.specs.declared.spelling.Spelling.TheVariants.{Fixed, Block}
use Rattle.gimli_units_forms.specs.FormSpellings.{spelling}

-- a number of a fixed width has at most eight bytes
pub fixed_is_narrow : (w : ℕ) (e : Encoding) (form : ℕ) → Fixed w ≡ spelling e form → w ≤ 8
unfolding spelling
fixed_is_narrow w e form h = grind arith

-- and so has a length
pub block_is_narrow : (w : ℕ) (e : Encoding) (form : ℕ) → Block w ≡ spelling e form → w ≤ 8
unfolding spelling
block_is_narrow w e form h = grind arith
