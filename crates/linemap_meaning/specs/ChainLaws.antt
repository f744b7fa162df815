-- What follows for the chain of calls that hold an address, for every table.
use Rattle.std.specs.Prelude.{◌≡◌, ◌⊎◌, ℕ, true, false, List, [], ◌∷◌}
use Rattle.linemap_meaning.specs.TableParts.{Site, Calls, no_calls, more_calls, CallPart}
use Rattle.linemap_meaning.specs.Conditions.{sibling_ranges, any_calls_overlap}
use Rattle.linemap_meaning.specs.Meaning.{any_holds, chain}

-- a call is one of a list, and not only inlined into one
abbrev pub IsAmong : CallPart → Calls → Type 0
IsAmong c no_calls = ⊥
IsAmong c (more_calls site inner others) =
    (c ≡ record { site = site; inner = inner }) ⊎ IsAmong c others

-- a way down through calls that hold the address, each inlined into the one before, until none
-- holds it
abbrev pub IsWayDown : ℕ → Calls → List Site → Type 0
IsWayDown a cs [] = any_holds a (sibling_ranges cs) ≡ false
IsWayDown a cs (s ∷ ss) =
    (c : CallPart) × IsAmong c cs × (c.site ≡ s) × (any_holds a s.ranges ≡ true)
    × IsWayDown a c.inner ss

-- the chain is such a way
abbrev pub ChainGoesDown : Type 0
ChainGoesDown = (a : ℕ) (cs : Calls) → IsWayDown a cs (chain a cs)

-- among calls of which no two side by side overlap there is no other
abbrev pub OneWayDown : Type 0
OneWayDown =
    (a : ℕ) (cs : Calls) (ss : List Site) → any_calls_overlap cs ≡ false → IsWayDown a cs ss
    → ss ≡ chain a cs
