-- Rows whose numbers fit 24 bytes, and rows that don't go back.
use Rattle.std.specs.Prelude.{ℕ, ◌^◌, ◌≤◌, ◌&&◌, nat_lt, List, [], ◌∷◌, Option, Some, None, if◌then◌else◌}
use Rattle.addr2line_spec.specs.Lines.{LineRow}

-- a row whose file and discriminator are numbers of 32 bits, and its column of 16
abbrev pub if_narrow : LineRow → Option LineRow
if_narrow r =
    if nat_lt r.file (2 ^ 32) && nat_lt r.column (2 ^ 16) && nat_lt r.discriminator (2 ^ 32)
    then Some r else None

-- none of some rows is below one before it, nor the first below an address
abbrev pub AscendFrom : ℕ → List LineRow → Type 0
AscendFrom a [] = Unit {0}
AscendFrom a (r ∷ rs) = (a ≤ r.address) × AscendFrom r.address rs

-- the address of the last of some rows, or another where there are none
abbrev pub last_address : ℕ → List LineRow → ℕ
last_address a [] = a
last_address a (r ∷ rs) = last_address r.address rs
