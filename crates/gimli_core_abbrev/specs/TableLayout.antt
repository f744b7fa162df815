-- How a table stores its declarations: in the order of their bytes, with the places of all codes
-- but the first ones, which are 1, 2, .., and with all attributes one after the other.
use Rattle.std.specs.Prelude.{◌≡◌, ◌≤◌, ℕ, zero, suc, ◌+◌, ◌-◌, ◌==◌, nat_lt, nat_le, Bool, true, ◌&&◌, List, [], ◌∷◌, map, length, drop, slice_index, slice_range, Option, Some, None, option_map, Ok, if◌then◌else◌}
use Rattle.std.specs.List.{slice_get}
use Rattle.gimli_core_readers.specs.View.{View, bytes_left, after}
use Rattle.gimli_core_readers.specs.Parsers.{Parser}
use Rattle.gimli_core_readers.specs.Repetition.{Listing, listing_in, whole}
use Rattle.gimli_core_abbrev.specs.declared.abbreviation.AttributeSpecification.{AttributeSpecification}
use Rattle.gimli_core_abbrev.specs.declared.table.StoredDeclaration.{StoredDeclaration}
use Rattle.gimli_core_abbrev.specs.Declarations.{Attribute, Declaration, repeated_code}
use Rattle.gimli_core_abbrev.specs.AbbreviationViews.{attribute_view, declaration_of_parts}
use Rattle.gimli_core_abbrev.specs.DeclarationFacts.{KnowsAttributes}
use Rattle.gimli_core_abbrev.specs.TableParsing.{declaration, distinct}

-- ---- places

-- the place of the first declaration of a code
abbrev pub place_in : ℕ → List Declaration → Option ℕ
place_in code [] = None
place_in code (d ∷ ds) = if d.code == code then Some 0 else option_map suc (place_in code ds)

-- the place of a code where the codes are 1, 2, ..
abbrev pub place_in_order : ℕ → Option ℕ
place_in_order zero = None
place_in_order (suc n) = Some n

-- the place of a code: among those in order, else what the others have
abbrev pub place_of : ℕ → (ℕ → Option ℕ) → ℕ → Option ℕ
place_of in_order others code =
    if nat_lt in_order code then others code else place_in_order code

-- each code is found at its place, and none is there twice
pub record IsLayout (ds : List Declaration) (in_order : ℕ) (others : ℕ → Option ℕ) : Type 0 where
  pub places : (code : ℕ) → place_of in_order others code ≡ place_in code ds
  pub once : repeated_code ds ≡ None

-- the declaration at a place, if that isn't before the first one
abbrev pub at_place : ℕ → Option ℕ → List Declaration → Option Declaration
at_place from None ds = None
at_place from (Some place) ds = if nat_lt place from then None else slice_get ds place

-- ---- what is stored

-- the attributes of a list between two of its places
abbrev pub attributes_between : List AttributeSpecification → ℕ → ℕ → List Attribute
attributes_between list begin end = map attribute_view (slice_range list begin end)

-- the code at a place: 1, 2, .. in order, and then those of a list
abbrev pub code_at : ℕ → List ℕ → ℕ → ℕ
code_at in_order others place =
    if nat_lt place in_order then place + 1 else slice_index others (place - in_order)

-- declarations from a place on, whose attributes begin at a place of the list of attributes
abbrev pub declarations_from : (ℕ → ℕ) → List AttributeSpecification → ℕ → ℕ
    → List StoredDeclaration → List Declaration
declarations_from code_of list place begin [] = []
declarations_from code_of list place begin (d ∷ ds) =
    declaration_of_parts (code_of place) d.head (attributes_between list begin d.end)
    ∷ declarations_from code_of list (place + 1) d.end ds

-- all that are stored
abbrev pub stored : ℕ → List ℕ → List AttributeSpecification → List StoredDeclaration
    → List Declaration
stored in_order others list ds = declarations_from (code_at in_order others) list 0 0 ds

-- where the attributes of the declaration at a place begin
abbrev pub begin_of : ℕ → List StoredDeclaration → ℕ → ℕ
begin_of begin ds zero = begin
begin_of begin [] (suc place) = begin
begin_of begin (d ∷ ds) (suc place) = begin_of d.end ds place

-- the attributes of each declaration follow those of the one before it, and the last end where the
-- list does
abbrev pub tiles : ℕ → ℕ → List StoredDeclaration → Bool
tiles total begin [] = begin == total
tiles total begin (d ∷ ds) = nat_le begin d.end && tiles total d.end ds

-- declarations, the codes of those that aren't in order, and all attributes
pub record IsStored (ds : List StoredDeclaration) (in_order : ℕ) (others : List ℕ)
    (list : List AttributeSpecification) : Type 0 where
  pub codes : in_order + length others ≡ length ds
  pub tiled : tiles (length list) 0 ds ≡ true
  pub heads : (place : ℕ) (d : StoredDeclaration) → slice_get ds place ≡ Some d
      → KnowsAttributes d.head (attributes_between list (begin_of 0 ds place) d.end)

-- ---- lists

-- the declarations of a table in the order of their bytes
unfoldable pub declaration_list : Parser (List Declaration)
declaration_list v =
    let listing : Listing View Declaration = listing_in bytes_left declaration v in
    distinct (repeated_code listing.items) (whole listing)

-- A list that was read from a section, up to one of its declarations: the bytes from that one on
-- are at a place of the section, and hold the rest of the list and then its end.
pub record IsListOf (section : View) (ds : List Declaration) (before : ℕ)
    (input : View) : Type 0 where
  pub once : repeated_code ds ≡ None
  pub place : ℕ
  pub inside : place ≤ bytes_left section
  pub is_there : input ≡ after place section
  pub items : (listing_in bytes_left declaration input).items ≡ drop before ds
  pub rest : View
  pub ending : (listing_in bytes_left declaration input).ending ≡ Ok rest

-- the same of a list whose next declaration is at this place
abbrev pub IsListAt : View → ℕ → List Declaration → ℕ → View → Type 0
IsListAt section place ds before input =
    IsListOf section ds before input × (place ≤ bytes_left section) × (input ≡ after place section)
