-- The attributes of some names, among those that declarations describe.
use Rattle.std.specs.Prelude.{◌≡◌, ◌++◌, ℕ, ◌==◌, Bool, false, List, All, Ok}
use Rattle.std.specs.List.{filter, list_any}
use Rattle.gimli_core_base.specs.declared.common.Encoding.{Encoding}
use Rattle.gimli_core_base.specs.declared.constants.DwAt.{DwAt}
use Rattle.gimli_core_base.specs.Parsers.{Parser, Step, map_value}
use Rattle.gimli_units_forms.specs.Declarations.{Attribute}
use Rattle.gimli_units_forms.specs.AttributeReading as forms
use Rattle.gimli_units_forms.specs.AttributeValues.{RawAttribute}
use Rattle.gimli_units_entries.specs.EntryWalks.{Walk, values}

-- a name is one of these
abbrev pub is_name_of : List DwAt → ℕ → Bool
is_name_of names name = list_any (λ n. n.0 == name) names

-- the attributes of these names, in order
abbrev pub of_names : List DwAt → List RawAttribute → List RawAttribute
of_names names attributes = filter (λ a. is_name_of names a.name) attributes

-- several attributes, all read, of which those of these names are kept
abbrev pub named_attributes : ℕ → List DwAt → Encoding → List Attribute
    → Parser (List RawAttribute)
named_attributes limit names e ss = map_value (of_names names) (forms.attributes limit e ss)

-- the same as a step of a walk
abbrev pub named_values : ℕ → List DwAt → List Attribute → Step Walk (List RawAttribute)
named_values limit names ss = map_value (of_names names) (values limit ss)

-- Of the attributes that declarations describe, which `read` reads, the first are read, and none of
-- them has one of the names: `left` are the declarations that are left, in the state `new`.
pub record PassesOthers {S : Type 0} (names : List DwAt)
    (read : List Attribute → Step S (List RawAttribute)) (all : List Attribute) (old : S)
    (left : List Attribute) (new : S) : Type 0 where
  pub first : List Attribute
  pub passed : List RawAttribute
  pub divided : first ++ left ≡ all
  pub reads : read first old ≡ Ok (passed, new)
  pub others : All (λ a. is_name_of names a.name ≡ false) passed
