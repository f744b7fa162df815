-- The fields of entries of range lists and location lists (DWARF 5, 2.6.2 and 2.17.3).
use Rattle.std.specs.Prelude.{ℕ, ◌==◌, length, Option, None, Ok, if◌then◌else◌}
use Rattle.gimli_core_readers.specs.Parsers.{Parser, ◌>>=◌, give, lift}
use Rattle.gimli_core_readers.specs.NumberParsers.{unsigned, address, offset_below}

-- An entry, or none at the entry that ends a list. A section that ends where an entry would begin
-- ends the list too.
abbrev pub entry_or_end : {A : Type 0} → Parser (Option A) → Parser (Option A)
entry_or_end p v = if length v.bytes == 0 then Ok (None, v) else p v

-- one field and then another
abbrev pub both : {A B : Type 0} → Parser A → Parser B → Parser (A × B)
both p q = p >>= λ x. (q >>= λ y. give (x, y))

-- an index into the addresses
unfoldable pub index : ℕ → Parser ℕ
index limit = do
  i ← unsigned
  lift (offset_below limit i)

-- those of begin and end
unfoldable pub indexes : ℕ → Parser (ℕ × ℕ)
indexes limit = both (index limit) (index limit)

-- offsets of begin and end
unfoldable pub offsets : Parser (ℕ × ℕ)
offsets = both unsigned unsigned

-- addresses of begin and end
unfoldable pub addresses : ℕ → Parser (ℕ × ℕ)
addresses size = both (address size) (address size)

-- an address and a length
unfoldable pub address_and_length : ℕ → Parser (ℕ × ℕ)
address_and_length size = both (address size) unsigned
