-- The addresses divided into stretches, each with the entry of its symbol, for one bisection.
use Rattle.std.specs.Prelude.{◌≡◌, ℕ, ◌+◌, ◌-◌, ◌^◌, ◌≤◌, ◌==◌, nat_le, nat_lt, Bool, true, min, List, [], ◌∷◌, Option, None, if◌then◌else◌}
use Rattle.std.specs.List.{filter_map}
use Rattle.std.specs.List.Sorted.{IsNonDecreasingBy}
use Rattle.std.specs.Option.{is_some, option_and_then}
use Rattle.addr2line_elf.specs.declared.symbol_entries.SymbolEntry.{SymbolEntry}
use Rattle.addr2line_elf.specs.declared.stretch.SymbolStretch.{SymbolStretch}
use Rattle.addr2line_elf.specs.ElfSymbols.{symbol_of, symbol_at}

abbrev pub greatest_symbol_address : ℕ
greatest_symbol_address = 2 ^ 64 - 1

-- the last address that an entry covers; the greatest that there is, if its size isn't known
abbrev pub last_covered : SymbolEntry → ℕ
last_covered e =
    if e.size == 0 then greatest_symbol_address
    else min (e.value + (e.size - 1)) greatest_symbol_address

-- where a stretch ends
abbrev pub last_of : SymbolStretch → ℕ
last_of s = s.last

abbrev pub ends_before : ℕ → SymbolStretch → Bool
ends_before a s = nat_lt s.last a

-- the entry of the first stretch that ends at or above an address, or else another
abbrev pub entry_at : ℕ → List SymbolStretch → Option SymbolEntry → Option SymbolEntry
entry_at a [] rest = rest
entry_at a (s ∷ ss) rest = if nat_le a s.last then s.entry else entry_at a ss rest

-- the entry has a symbol
abbrev pub is_named : List ℕ → SymbolEntry → Bool
is_named texts e = is_some (symbol_of texts e)

abbrev pub AreNamed : List ℕ → List SymbolEntry → Type 0
AreNamed texts [] = Unit {0}
AreNamed texts (e ∷ es) = (is_named texts e ≡ true) × AreNamed texts es

-- the stretches are in order, and that of an address has the entry of its symbol
pub record IsDivided (texts : List ℕ) (entries : List SymbolEntry)
    (stretches : List SymbolStretch) : Type 0 where
  pub order : IsNonDecreasingBy last_of stretches
  pub answers : (a : ℕ) → a ≤ greatest_symbol_address
      → option_and_then (symbol_of texts) (entry_at a stretches None)
      ≡ symbol_at a (filter_map (symbol_of texts) entries)
