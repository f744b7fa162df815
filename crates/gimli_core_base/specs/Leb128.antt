-- LEB128 (DWARF 5, 7.6): bytes from 128 on, and a last one below 128. The low seven bits of each
-- byte are a digit to the base 128, the lowest digit first.
use Rattle.std.specs.Prelude.{ℕ, ℤ, pos, negsuc, ◌+◌, ◌*◌, ◌^◌, ◌%◌, ◌-ℤ◌, nat_lt, nat_le, Bool, false, List, [], ◌∷◌, length, take, Option, Some, None, option_map, Result, Ok, Err, if◌then◌else◌}
use Rattle.std.specs.Option.{ok_or}
use Rattle.gimli_core_base.specs.declared.leb128.Fault.{Fault}
use Rattle.gimli_core_base.specs.declared.leb128.Fault.TheVariants.{Cut, Bad}

-- the first string of the bytes, none where no byte is below 128
abbrev pub leb_string : List ℕ → Option (List ℕ)
leb_string [] = None
leb_string (b ∷ bs) =
    if nat_lt b 128 then Some (b ∷ []) else option_map (λ s. b ∷ s) (leb_string bs)

-- the sum of the digits, the first of them worth 128 ^ i
abbrev pub digits_from : ℕ → List ℕ → ℕ
digits_from i [] = 0
digits_from i (b ∷ bs) = b % 128 * 128 ^ i + digits_from (i + 1) bs

-- the number of an unsigned string
abbrev pub unsigned_number : List ℕ → ℕ
unsigned_number string = digits_from 0 string

-- the last byte has bit 6 set
abbrev pub is_negative : List ℕ → Bool
is_negative [] = false
is_negative (b ∷ []) = nat_le 64 (b % 128)
is_negative (b ∷ c ∷ bs) = is_negative (c ∷ bs)

-- the number of a signed string: less 128 ^ n where the last of its n bytes has bit 6 set
abbrev pub signed_number : List ℕ → ℤ
signed_number string =
    pos (digits_from 0 string) -ℤ pos (if is_negative string then 128 ^ length string else 0)

-- The first string of at most limit bytes. It is cut where the bytes end before it and before the
-- limit, and bad where it is longer than the limit.
abbrev pub bounded_string : ℕ → List ℕ → Result (List ℕ) Fault
bounded_string limit bytes =
    ok_or (leb_string (take limit bytes)) (if nat_lt (length bytes) limit then Cut else Bad)

-- the number of an unsigned string, below a bound, and its length
abbrev pub unsigned_of : ℕ → Result (List ℕ) Fault → Result (ℕ × ℕ) Fault
unsigned_of bound (Ok s) =
    if nat_lt (unsigned_number s) bound then Ok (unsigned_number s, length s) else Err Bad
unsigned_of bound (Err fault) = Err fault

-- the same of the first string of at most limit bytes
abbrev pub unsigned_at : ℕ → ℕ → List ℕ → Result (ℕ × ℕ) Fault
unsigned_at limit bound bytes = unsigned_of bound (bounded_string limit bytes)

-- the number is one of an i64
abbrev pub fits_i64 : ℤ → Bool
fits_i64 (pos n) = nat_lt n (2 ^ 63)
fits_i64 (negsuc n) = nat_lt n (2 ^ 63)

-- the number of a signed string, one of an i64, and its length
abbrev pub signed_of : Result (List ℕ) Fault → Result (ℤ × ℕ) Fault
signed_of (Ok s) = if fits_i64 (signed_number s) then Ok (signed_number s, length s) else Err Bad
signed_of (Err fault) = Err fault

-- the same of the first string of at most ten bytes
abbrev pub signed_at : List ℕ → Result (ℤ × ℕ) Fault
signed_at bytes = signed_of (bounded_string 10 bytes)
