-- The codes by which refusals are printed: a letter, and a number from 1 on without a leading zero.
use Rattle.std.specs.Prelude.{ℕ, ◌+◌, ◌*◌, ◌-◌, ◌==◌, nat_lt, nat_le, Bool, false, ◌&&◌, List, [], ◌∷◌, Option, Some, None, codes, if◌then◌else◌}
use Rattle.linemap_words.specs.CommandLine.{letter}

-- how many refusals have a letter
abbrev pub count_of : ℕ → ℕ
count_of l =
    if l == letter (codes "E") then 33
    else if l == letter (codes "W") then 10
    else if l == letter (codes "B") then 20
    else if l == letter (codes "M") then 2
    else if l == letter (codes "L") then 8
    else 0

-- a decimal digit
abbrev pub digit_of : ℕ → Option ℕ
digit_of c =
    if nat_le (letter (codes "0")) c && nat_le c (letter (codes "9"))
    then Some (c - letter (codes "0")) else None

-- two digits, of which the first isn't 0
abbrev pub of_two_digits : Option ℕ → Option ℕ → Option ℕ
of_two_digits (Some tens) (Some ones) = if tens == 0 then None else Some (10 * tens + ones)
of_two_digits tens ones = None

-- a number of one or two digits
abbrev pub number_in : List ℕ → Option ℕ
number_in (d ∷ []) = digit_of d
number_in (d ∷ e ∷ []) = of_two_digits (digit_of d) (digit_of e)
number_in _ = None

-- a number from 1 to a count
abbrev pub is_within : ℕ → Option ℕ → Bool
is_within count None = false
is_within count (Some n) = nat_lt 0 n && nat_le n count

-- the text is the code of a refusal
abbrev pub is_refusal_code : List ℕ → Bool
is_refusal_code [] = false
is_refusal_code (l ∷ digits) = is_within (count_of l) (number_in digits)
