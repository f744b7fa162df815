-- The addresses at which stretches begin, one after the other.
use Rattle.std.proofs.Common.{◌≡◌, List, ◌++◌, ℕ, Option, None, map}
use Rattle.addr2line_context.specs.Lines.{Stretch}
use Rattle.addr2line_context.specs.Repetition.{Listing}
use Rattle.linemap_lookup.specs.Programs.{ascending_after}

abbrev addresses_of : Listing (Unit {0}) Stretch → List ℕ
addresses_of l = map (λ (s : Stretch). s.address) l.items

-- these addresses are taken so far, and what is left is taken after the last of them
pub record TakesSoFar (taken : List ℕ) (last : Option ℕ) (left all : Listing (Unit {0}) Stretch) : Type 0 where
  pub addresses : taken ++ ascending_after last (addresses_of left) ≡ ascending_after None (addresses_of all)
  pub ending : left.ending ≡ all.ending
