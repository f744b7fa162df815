-- When two attributes, and two declarations, are equal: in each of their parts.
use Rattle.std.specs.Prelude.{nat_eq, Bool, ◌&&◌}
use Rattle.std.specs.Cmp.{IsEquivalence, on_equiv, and_equiv, bool_eq_equiv, nat_eq_equiv, int_eq_equiv}
use Rattle.std.specs.Cmp.Lexicographic.{pointwise, options_equiv, lists_equiv}
use Rattle.std.specs.Option.{option_eq}
use Rattle.std.specs.Ordering.{int_eq}
use Rattle.std.proofs.Math.Bool.{beq}
use Rattle.gimli_core_abbrev.specs.declared.abbreviation.AttributeSpecification.{AttributeSpecification}
use Rattle.gimli_core_abbrev.specs.Declarations.{Attribute, Declaration}
use Rattle.gimli_core_abbrev.specs.AttributeViews.{attribute_view}

abbrev pub is_same_attribute : Attribute → Attribute → Bool
is_same_attribute a b =
    nat_eq a.name b.name
    && (nat_eq a.form b.form && option_eq int_eq a.implicit_const b.implicit_const)

abbrev pub is_same_declaration : Declaration → Declaration → Bool
is_same_declaration a b =
    nat_eq a.code b.code
    && (nat_eq a.tag b.tag
    && (beq a.has_children b.has_children
    && pointwise is_same_attribute a.attributes b.attributes))

-- by what is said of them
abbrev pub is_same_specification : AttributeSpecification → AttributeSpecification → Bool
is_same_specification a b = is_same_attribute (attribute_view a) (attribute_view b)

pub same_attribute_laws : IsEquivalence is_same_attribute
same_attribute_laws =
    and_equiv (on_equiv (λ (a : Attribute). a.name) nat_eq_equiv)
    (and_equiv (on_equiv (λ (a : Attribute). a.form) nat_eq_equiv)
    (on_equiv (λ (a : Attribute). a.implicit_const) (options_equiv int_eq_equiv)))

pub same_declaration_laws : IsEquivalence is_same_declaration
same_declaration_laws =
    and_equiv (on_equiv (λ (d : Declaration). d.code) nat_eq_equiv)
    (and_equiv (on_equiv (λ (d : Declaration). d.tag) nat_eq_equiv)
    (and_equiv (on_equiv (λ (d : Declaration). d.has_children) bool_eq_equiv)
    (on_equiv (λ (d : Declaration). d.attributes) (lists_equiv same_attribute_laws))))

pub same_specification_laws : IsEquivalence is_same_specification
same_specification_laws = on_equiv attribute_view same_attribute_laws
