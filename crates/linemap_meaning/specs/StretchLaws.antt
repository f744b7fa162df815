-- What follows for the stretches of a table: they answer what its locations answer.
use Rattle.std.specs.Prelude.{◌≡◌, ◌+◌, ℕ, Bool, true, ◌&&◌, nat_lt, nat_le, List, [], ◌∷◌, length, map, filter, flat_map, option_to_list}
use Rattle.linemap_meaning.specs.TableParts.{UnitPart}
use Rattle.linemap_meaning.specs.Conditions.{IsSound}
use Rattle.linemap_meaning.specs.Meaning.{Location, Stretch, location_at, unit_stretches, in_order, stretches_between}

-- the address is in the stretch
abbrev pub stretch_holds : ℕ → Stretch → Bool
stretch_holds a s = nat_le s.address a && nat_lt a (s.address + s.length)

-- the locations of the stretches that hold an address
abbrev pub stretch_locations : ℕ → List Stretch → List Location
stretch_locations a ss = map (λ s. s.location) (filter (stretch_holds a) ss)

-- over a sound table an address is in one stretch, with its location, where it has a location, and
-- else in none
abbrev pub StretchesAnswer : Type 0
StretchesAnswer =
    (us : List UnitPart) (a : ℕ) → IsSound us
    → stretch_locations a (flat_map unit_stretches us) ≡ option_to_list (location_at us a)

-- ---- their order

-- no stretch begins below the one before it, nor the first below low
abbrev pub ascend_from : ℕ → List Stretch → Bool
ascend_from low [] = true
ascend_from low (s ∷ ss) = nat_le low s.address && ascend_from s.address ss

-- the stretches between two ends ascend
abbrev pub StretchesAscend : Type 0
StretchesAscend =
    (us : List UnitPart) (low high : ℕ) → ascend_from 0 (stretches_between us low high) ≡ true

-- in order there are as many stretches of each kind as before
abbrev pub OrderKeepsAll : Type 0
OrderKeepsAll =
    (kind : Stretch → Bool) (ss : List Stretch)
    → length (filter kind (in_order ss)) ≡ length (filter kind ss)
