-- The encodings that a table can be written in, and the tables that fit them.
use Rattle.std.specs.Prelude.{◌≡◌, ℕ, ◌-◌, ◌*◌, ◌^◌, Bool, true, not, ◌&&◌, ◌||◌, ◌==◌, nat_le, List}
use Rattle.std.specs.List.{list_any}
use Rattle.linemap_meaning.specs.TableParts.{UnitPart}
use Rattle.linemap_meaning.specs.Conditions.{any_ranges, IsSound}

-- version 2 in the 32-bit format, 3 to 5 in either; addresses of 4 or 8 bytes; either byte order
abbrev pub is_target : ℕ → Bool → ℕ → Bool
is_target version is_64_bit address_size =
    (((version == 2) && not is_64_bit) || (nat_le 3 version && nat_le version 5))
    && ((address_size == 4) || (address_size == 8))

-- the least address of a size in bytes that marks code that was removed (a tombstone)
abbrev pub least_tombstone : ℕ → ℕ
least_tombstone address_size = 2 ^ (8 * address_size) - 2

-- some address of the unit passes the test: a begin or end of a range, a row's address or a
-- sequence's end
abbrev pub any_address : (ℕ → Bool) → UnitPart → Bool
any_address test u =
    any_ranges (list_any (λ r. test r.begin || test r.end)) u
    || list_any (λ s. list_any (λ r. test r.address) s.rows || test s.end) u.sequences

-- every address of the table is below the least tombstone of that size
abbrev pub fits : ℕ → List UnitPart → Bool
fits address_size us = not (list_any (any_address (nat_le (least_tombstone address_size))) us)

-- every sound table fits addresses of 8 bytes
abbrev pub SoundFits8 : Type 0
SoundFits8 = (us : List UnitPart) → IsSound us → fits 8 us ≡ true
