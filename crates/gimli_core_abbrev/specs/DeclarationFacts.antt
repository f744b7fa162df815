-- What is known of a declaration's attributes since it was parsed.
use Rattle.std.specs.Prelude.{◌≡◌, ◌<◌, ◌≤◌, ℕ, ◌+◌, ◌*◌, ◌==◌, nat_lt, ◌||◌, Bool, List, ◌++◌, length}
use Rattle.std.specs.List.{list_any}
use Rattle.gimli_core_readers.specs.TheConstants.{DW_AT_low_pc, DW_AT_high_pc, DW_AT_ranges}
use Rattle.gimli_core_abbrev.specs.declared.declaration.Head.{Head}
use Rattle.gimli_core_abbrev.specs.declared.facts.AttributeFacts.{AttributeFacts}
use Rattle.gimli_core_abbrev.specs.declared.widths.FixedWidths.{FixedWidths}
use Rattle.gimli_core_abbrev.specs.Declarations.{Attribute}
use Rattle.gimli_core_abbrev.specs.FormWidths.{AreWidthsOf, most_counted, widths_in}

-- the names of the attributes that give an entry's addresses (DWARF 5, 2.17)
abbrev pub is_of_ranges : ℕ → Bool
is_of_ranges name = name == DW_AT_low_pc.0 || name == DW_AT_high_pc.0 || name == DW_AT_ranges.0

-- one of the attributes does
abbrev pub names_ranges : List Attribute → Bool
names_ranges attributes = list_any (λ a. is_of_ranges a.name) attributes

-- what is known of the attributes is so
pub record KnowsAttributes (head : Head) (attributes : List Attribute) : Type 0 where
  pub ranges : head.has_ranges ≡ names_ranges attributes
  pub widths : AreWidthsOf attributes (widths_in head.widths)

-- ---- while they are read

-- one of them gives an entry's addresses
abbrev pub know_ranges : AttributeFacts → Bool
know_ranges f = nat_lt 0 f.ranges

-- The widths are those of the attributes so far, and as many more can be counted: the rest of the
-- most while all are counted, and none after one that isn't.
pub record KnowsWidths (w : FixedWidths) (more : ℕ) (attributes : List Attribute) : Type 0 where
  pub widths : AreWidthsOf attributes w
  pub room : w.attributes ≡ length attributes → w.attributes + more ≡ most_counted
  pub ended : w.attributes < length attributes → more ≡ 0

-- What is known of the attributes so far is so.
pub record KnowsRead (f : AttributeFacts) (attributes : List Attribute) : Type 0 where
  pub ranges : know_ranges f ≡ names_ranges attributes
  pub widths : KnowsWidths (widths_in f.widths) f.room attributes

-- each of the sums fits in a byte, also with the widths of as many more
abbrev pub FitWithMore : ℕ → FixedWidths → Type 0
FitWithMore more w =
    (w.bytes ≤ 16 * w.attributes) × (w.addresses ≤ w.attributes) × (w.offsets ≤ w.attributes)
    × (w.attributes + more ≤ most_counted)

abbrev pub FitsInBytes : AttributeFacts → Type 0
FitsInBytes f = FitWithMore f.room (widths_in f.widths)

-- what was known of some attributes is known of these and of more
pub record KnowsMore (old new : AttributeFacts) (more : List Attribute) : Type 0 where
  pub fits : FitsInBytes new
  pub knows : (before : List Attribute) → KnowsRead old before → KnowsRead new (before ++ more)
