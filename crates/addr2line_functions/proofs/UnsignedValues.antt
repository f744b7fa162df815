-- A number as contracts see it is the number.
use Rattle.std.proofs.Common.{◌≡◌, ℕ, Option, Some, None, option_map, Result, Ok, refl, sym, ap, ◌∙◌}
use Rattle.gimli_units_entries.specs.Error.{Error}

abbrev pub number : ℕ → ℕ
number n = n

abbrev ok_of : Option ℕ → Result (Option ℕ) Error
ok_of o = Ok o

itself : (o : Option ℕ) → option_map number o ≡ o
itself None = refl
itself (Some n) = refl

-- a number that equals another does so as contracts see it
pub ok_number : (found o : Option ℕ) → found ≡ o → ok_of o ≡ ok_of (option_map number found)
ok_number found o h = ap ok_of (sym h ∙ sym (itself found))
