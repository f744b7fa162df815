-- A sweep over the addresses, from the least on, that divides them into stretches.
use Rattle.std.specs.Prelude.{◌≡◌, ℕ, ◌+◌, vec_len, ◌<◌, ◌≤◌, nat_le, Bool, List, [], ◌∷◌, ◌++◌, map, Option, Some, None, if◌then◌else◌}
use Rattle.std.specs.List.{find}
use Rattle.std.specs.List.Sorted.{IsNonDecreasingBy}
use Rattle.addr2line_elf.specs.declared.symbol_entries.SymbolEntry.{SymbolEntry}
use Rattle.addr2line_elf.specs.declared.stretch.SymbolStretch.{SymbolStretch}
use Rattle.addr2line_elf.specs.declared.sweep.Sweep.{Sweep}
use Rattle.addr2line_elf.specs.ElfSymbols.{covers}
use Rattle.addr2line_elf.specs.SymbolStretches.{greatest_symbol_address, last_covered, last_of, entry_at}

abbrev pub entry_covers : ℕ → SymbolEntry → Bool
entry_covers a e = covers e.value e.size a

-- ---- entries by their values, the greatest first

-- the value of the first entry, if there is one
abbrev pub first_value : List SymbolEntry → ℕ
first_value [] = 0
first_value (e ∷ es) = e.value

abbrev pub Falls : List SymbolEntry → Type 0
Falls [] = Unit {0}
Falls (e ∷ es) = (first_value es ≤ e.value) × Falls es

-- stretches in order, where that of an address has the first entry that covers it
pub record AnswersFor (entries : List SymbolEntry) (stretches : List SymbolStretch)
    : Type 0 where
  pub order : IsNonDecreasingBy last_of stretches
  pub answers : (a : ℕ) → a ≤ greatest_symbol_address
      → entry_at a stretches None ≡ find (entry_covers a) entries

-- ---- entries that cover the addresses from one on, by their ends

abbrev pub first_active : List SymbolEntry → Option SymbolEntry
first_active [] = None
first_active (e ∷ es) = Some e

-- the first that covers the addresses up to one
abbrev pub active_at : ℕ → List SymbolEntry → Option SymbolEntry
active_at a es = find (λ e. nat_le a (last_covered e)) es

-- those from the first on that ends above an address
abbrev pub still_active : ℕ → List SymbolEntry → List SymbolEntry
still_active a [] = []
still_active a (e ∷ es) = if nat_le (last_covered e) a then still_active a es else e ∷ es

-- the first of them, if any, ends above an address
abbrev pub EndsAbove : ℕ → List SymbolEntry → Type 0
EndsAbove a [] = Unit {0}
EndsAbove a (e ∷ es) = a < last_covered e

-- ---- how far the sweep is

abbrev pub EndBelow : ℕ → List SymbolStretch → Type 0
EndBelow low [] = Unit {0}
EndBelow low (s ∷ ss) = (s.last < low) × EndBelow low ss

-- none is below the one before it, or below a bound
abbrev pub Rises : ℕ → List ℕ → Type 0
Rises low [] = Unit {0}
Rises low (n ∷ ns) = (low ≤ n) × Rises n ns

-- where the stretches end, and then the active entries
abbrev pub ends : List SymbolStretch → List SymbolEntry → List ℕ
ends stretches active = map last_of stretches ++ map last_covered active

-- the answer at each address is that of its stretch, or else of the active entries
pub record IsSwept (stretches : List SymbolStretch) (active entries : List SymbolEntry)
    : Type 0 where
  pub order : Rises 0 (ends stretches active)
  pub answers : (a : ℕ) → a ≤ greatest_symbol_address
      → entry_at a stretches (active_at a active) ≡ find (entry_covers a) entries

-- and all stretches end below an address
pub record IsSweptTo (low : ℕ) (stretches : List SymbolStretch) (active entries : List SymbolEntry)
    : Type 0 where
  pub ended : EndBelow low stretches
  pub swept : IsSwept stretches active entries

-- each address below one is in a stretch
abbrev pub IsFilledTo : ℕ → List SymbolStretch → Type 0
IsFilledTo low stretches =
    (a : ℕ) (first other : Option SymbolEntry) → a < low
    → entry_at a stretches first ≡ entry_at a stretches other

-- how many stretches there are, with those that the active entries may get
abbrev pub stretch_count : Sweep → ℕ
stretch_count sweep = vec_len sweep.stretches + vec_len sweep.active
