-- Attributes of which no name is made.
use Rattle.std.specs.Prelude.{◌≡◌, ◌≢◌, ℕ, ◌||◌, Bool, true, false, List, [], ◌∷◌, All, Result, Ok, Err}
use Rattle.gimli_dwarf.specs.Error.{Error}
use Rattle.gimli_dwarf.specs.Error.TheVariants.{Memory}
use Rattle.gimli_dwarf.specs.Declarations.{Attribute}
use Rattle.gimli_dwarf.specs.AttributeValues.{RawAttribute}
use Rattle.gimli_dwarf.specs.EntryWalks.{Walk}
use Rattle.gimli_dwarf.specs.Repetition.{prepend}
use Rattle.gimli_dwarf.specs.UnitFacts.{is_name}
use Rattle.addr2line_names.specs.EntryNamings.{is_linkage_name, is_reference, attributes_from}

-- the attributes that names are made of, by their names
abbrev pub is_naming : ℕ → Bool
is_naming n = is_name n || (is_reference n || is_linkage_name n)

-- no name is made of an attribute
abbrev pub IsNoName : RawAttribute → Type 0
IsNoName a = is_naming a.name ≡ false

-- no attributes, or first one that a name may be made of
abbrev pub BeginsWithName : List Attribute → Type 0
BeginsWithName [] = Unit {0}
BeginsWithName (s ∷ ss) = is_naming s.name ≡ true

-- The attributes of some declarations are those of the others, after ones of which no name is made.
pub record Passes (limit : ℕ) (all : List Attribute) (old : Walk) (others : List Attribute)
    (new : Walk) : Type 0 where
  pub passed : List RawAttribute
  pub nameless : All IsNoName passed
  pub same : attributes_from limit all old ≡ prepend passed (attributes_from limit others new)

-- One of them can't be read, and no name is made of those before it.
pub record PassesToFault (limit : ℕ) (all : List Attribute) (old : Walk) (fault : Error)
    : Type 0 where
  pub passed : List RawAttribute
  pub nameless : All IsNoName passed
  pub same : attributes_from limit all old ≡ record { items = passed; ending = Err fault }

-- the declarations of the others, as `see` sees them, or the fault, or out of memory
abbrev pub PassesOrNoMemory
    : {A : Type 0} → ℕ → (A → List Attribute) → Result A Error → List Attribute → Walk → Walk
    → Type 0
PassesOrNoMemory limit see (Ok others) all old new = Passes limit all old (see others) new
PassesOrNoMemory limit see (Err e) all old new = e ≢ Memory → PassesToFault limit all old e
