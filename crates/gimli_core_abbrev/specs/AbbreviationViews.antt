-- What a contract sees of a declaration.
pub use Rattle.gimli_core_abbrev.specs.AttributeViews.{attribute_view}
use Rattle.std.specs.Prelude.{◌≡◌, ℕ, List, ◌++◌, map, length, drop}
use Rattle.gimli_core_abbrev.specs.declared.abbreviation.AttributeSpecification.{AttributeSpecification}
use Rattle.gimli_core_abbrev.specs.declared.declaration.Head.{Head}
use Rattle.gimli_core_abbrev.specs.declared.declaration.CodedHead.{CodedHead}
use Rattle.gimli_core_abbrev.specs.Declarations.{Attribute, Declaration}

-- a declaration of its parts
abbrev pub declaration_of_parts : ℕ → Head → List Attribute → Declaration
declaration_of_parts code head attributes =
    record {
      code = code;
      tag = head.tag.0;
      has_children = head.has_children;
      attributes = attributes;
    }

-- a declaration whose attributes are these
abbrev pub with_attributes : List Attribute → CodedHead → Declaration
with_attributes attributes d = declaration_of_parts d.code d.head attributes

-- what was put after the attributes of a list
abbrev pub added : List AttributeSpecification → List AttributeSpecification
    → List AttributeSpecification
added old new = drop (length old) new

abbrev pub added_view : List AttributeSpecification → List AttributeSpecification → List Attribute
added_view old new = map attribute_view (added old new)

-- the others stayed
abbrev pub Extends : List AttributeSpecification → List AttributeSpecification → Type 0
Extends old new = new ≡ old ++ added old new

-- nothing of what was read
abbrev pub nothing : {A : Type 0} → A → Unit {0}
nothing x = tt
