-- What follows from the definitions of functions and calls.
use Rattle.std.specs.Prelude.{◌≡◌, ℕ, pos, ◌+◌, true, List, [], ◌∷◌, length, map, All, MatchOption}
use Rattle.std.specs.List.{list_all, range_with_len}
use Rattle.gimli_dwarf_spec.specs.EntryWalks.{Walk}
use Rattle.addr2line_spec.specs.InlinedCalls.{NestedEntry, Call, entries_of, call_at_depth, chain_from}

-- an entry has as many enclosing entries as its depth says, each of which has children
pub record IsEnclosed (b : NestedEntry) : Type 0 where
  pub as_deep : b.row.depth ≡ pos (length b.outer + 1)
  pub all_open : list_all (λ r. r.has_children) b.outer ≡ true

-- after the entry of a function with children
abbrev pub EachIsEnclosed : Type 0
EachIsEnclosed =
    (limit : ℕ) (w : Walk) → w.depth ≡ pos 1 → All IsEnclosed (entries_of limit w).items

-- a chain is the call of its first depth that holds the address, and the chain from the next depth
-- on; it ends where there is none
abbrev pub ChainStep : Type 0
ChainStep = (cs : List Call) (a depth : ℕ)
    → MatchOption (call_at_depth cs a depth) (chain_from cs a depth ≡ [])
    (λ c. chain_from cs a depth ≡ c ∷ chain_from cs a (depth + 1))

-- the depths of its calls follow each other
abbrev pub DepthsFollow : Type 0
DepthsFollow =
    (cs : List Call) (a depth : ℕ)
    → map (λ c. c.depth) (chain_from cs a depth)
    ≡ range_with_len depth (length (chain_from cs a depth))
