-- The stretch of an address, by a bisection.
use Rattle.std.proofs.Common.{◌≡◌, ℕ, suc, ◌+◌, ◌≤◌, Bool, true, false, cond, List, [], ◌∷◌, length, slice_get, Option, None, ap, refl, sym, ◌∙◌, inl, inr, arith}
use Rattle.std.specs.List.{prefix_len}
use Rattle.std.specs.List.Sorted.{IsPartitionPoint}
use Rattle.std.specs.Option.{option_and_then}
use Rattle.std.proofs.lemmas.Bool.{cases_lt, le-leb, lt-leb, lt-ltb, le-ltb}
use Rattle.std.proofs.lemmas.List.Sums.{prefix_len_is}
use Rattle.addr2line_elf.specs.declared.symbol_entries.SymbolEntry.{SymbolEntry}
use Rattle.addr2line_elf.specs.declared.stretch.SymbolStretch.{SymbolStretch}
use Rattle.addr2line_elf.specs.SymbolStretches.{ends_before, entry_at}

-- a partition point is the number of those before it
pub count_from_point : (a : ℕ) (ss : List SymbolStretch) (n : ℕ) → n ≤ length ss
    → IsPartitionPoint (λ s. ends_before a s ≡ true) (λ s. ends_before a s ≡ false) ss n
    → n ≡ prefix_len (ends_before a) ss
count_from_point a [] n le point = omega arith
count_from_point a (s ∷ ss) n le point =
    sym (prefix_len_is (ends_before a) (s ∷ ss) n s le (λ k below. point.0 k s (omega arith) below)
    (λ below. point.1 n s (omega arith) below))

abbrev pub entry_of : Option SymbolStretch → Option SymbolEntry
entry_of stretch = option_and_then (λ s. s.entry) stretch

pub entry_after : (a : ℕ) (ss : List SymbolStretch)
    → entry_at a ss None ≡ entry_of (slice_get ss (prefix_len (ends_before a) ss))
entry_after a [] = refl
entry_after a (s ∷ ss) =
    let n = prefix_len (ends_before a) ss in
    let counted = λ (b : Bool). entry_of (slice_get (s ∷ ss) (cond b (1 + n) 0)) in
    elim (cases_lt s.last a) [
      | inl below ↦
          let one : suc n ≡ 1 + n = omega arith in
          ap (λ b. cond b s.entry (entry_at a ss None)) (lt-leb a s.last below)
          ∙ entry_after a ss
          ∙ ap (λ k. entry_of (slice_get (s ∷ ss) k)) one
          ∙ sym (ap counted (lt-ltb s.last a below))
      | inr from ↦
          ap (λ b. cond b s.entry (entry_at a ss None)) (le-leb a s.last from)
          ∙ sym (ap counted (le-ltb s.last a from))
    ]
