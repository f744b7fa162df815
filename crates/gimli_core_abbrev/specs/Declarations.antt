-- The declarations of an abbreviation table (DWARF 5, 7.5.3).
use Rattle.std.specs.Prelude.{ℕ, ℤ, ◌==◌, nat_lt, Bool, List, [], ◌∷◌, find, Option, Some, None, if◌then◌else◌, refl}
use Rattle.std.specs.List.{list_any}
use Rattle.std.specs.Coded.{Coded, code_by, coded×, coded_ℕ, coded_ℤ, coded_bool, coded_list, coded_option}

-- an attribute: the numbers of its name and its form, and the value that the declaration itself
-- holds
pub record Attribute : Type 0 where
  pub name : ℕ
  pub form : ℕ
  pub implicit_const : Option ℤ

-- what entries of a code have in common: their tag, whether children follow, and their attributes
-- in order
pub record Declaration : Type 0 where
  pub code : ℕ
  pub tag : ℕ
  pub has_children : Bool
  pub attributes : List Attribute

-- as tuples of their fields
abbrev pub attribute_coding : Coded Attribute
attribute_coding =
    code_by (ℕ × (ℕ × Option ℤ))
    (coded× coded_ℕ (coded× coded_ℕ (coded_option coded_ℤ)))
    (λ a. (a.name, (a.form, a.implicit_const)))
    (λ p. record { name = p.0; form = p.1.0; implicit_const = p.1.1 }) (λ _. refl)

-- the declaration of a code
abbrev pub declaration_at : ℕ → List Declaration → Option Declaration
declaration_at code table = find (λ d. d.code == code) table

-- a declaration has this code
abbrev pub has_code : ℕ → List Declaration → Bool
has_code code table = list_any (λ d. d.code == code) table

-- one more declaration, before the first one whose code is above its own
abbrev pub put : Declaration → List Declaration → List Declaration
put d [] = d ∷ []
put d (e ∷ table) = if nat_lt d.code e.code then d ∷ e ∷ table else e ∷ put d table

-- declarations one after the other, each at its place among those that are there
abbrev pub put_all : List Declaration → List Declaration → List Declaration
put_all table [] = table
put_all table (d ∷ ds) = put_all (put d table) ds

-- the declarations by their codes
abbrev pub by_code : List Declaration → List Declaration
by_code ds = put_all [] ds

-- the code of the first declaration that has the code of one before it
abbrev pub repeated_after : List Declaration → List Declaration → Option ℕ
repeated_after before [] = None
repeated_after before (d ∷ ds) =
    if has_code d.code before then Some d.code else repeated_after (d ∷ before) ds

abbrev pub repeated_code : List Declaration → Option ℕ
repeated_code ds = repeated_after [] ds

abbrev pub declaration_coding : Coded Declaration
declaration_coding =
    code_by (ℕ × (ℕ × (Bool × List Attribute)))
    (coded× coded_ℕ (coded× coded_ℕ (coded× coded_bool (coded_list attribute_coding))))
    (λ d. (d.code, (d.tag, (d.has_children, d.attributes))))
    (λ p. record { code = p.0; tag = p.1.0; has_children = p.1.1.0; attributes = p.1.1.1 })
    (λ _. refl)
