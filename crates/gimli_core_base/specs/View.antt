-- What a reader sees: bytes, their order, and an identifier for each place.
use Rattle.std.specs.Prelude.{ℕ, ◌+◌, ◌-◌, Bool, ◌&&◌, nat_le, List, length, take, drop, Option, Some, None, if◌then◌else◌}
use Rattle.gimli_core_base.specs.declared.error.Error.{Error}
use Rattle.gimli_core_base.specs.declared.error.Error.TheVariants.{UnexpectedEof}

-- The bytes that are left, whether the more significant byte of a number comes first, and the
-- identifier of the first byte. A place is an index from 0 to the number of bytes; its identifier
-- is that of the first byte plus the index.
pub record View : Type 0 where
  pub bytes : List ℕ
  pub is_big : Bool
  pub first : ℕ

-- the rest after n bytes
abbrev pub after : ℕ → View → View
after n v = record { bytes = drop n v.bytes; is_big = v.is_big; first = v.first + n }

-- the first n bytes
abbrev pub prefix : ℕ → View → View
prefix n v = record { bytes = take n v.bytes; is_big = v.is_big; first = v.first }

-- the number of bytes that are left
abbrev pub bytes_left : View → ℕ
bytes_left v = length v.bytes

-- the refusal of a read that begins here and finds too few bytes
abbrev pub unexpected_end : View → Error
unexpected_end v = UnexpectedEof (record { 0 = v.first })

-- the index that an identifier names, the end's included
abbrev pub index_of : ℕ → View → Option ℕ
index_of id v =
    if nat_le v.first id && nat_le id (v.first + length v.bytes) then Some (id - v.first) else None
