use Rattle.std.proofs.Common.{map, ◌≡◌, ℕ, Bool, true, ◌&&◌, eqb, refl, ap, sym, ◌∙◌, eq-eqb}
use Rattle.std.specs.Prelude.{nat_eq}
use Rattle.std.specs.Cmp.Derive.Mapped.{pointwise-map}
use Rattle.std.proofs.Math.Bool.{beq}
use Rattle.gimli_core_abbrev.specs.Declarations.{Declaration}
use Rattle.gimli_core_abbrev.specs.AttributeViews.{attribute_view}
use Rattle.gimli_core_abbrev.specs.AbbreviationViews.{declaration_of_parts}
use Rattle.gimli_core_abbrev.specs.DeclarationEquality.{is_same_attribute, is_same_declaration}
use Rattle.gimli_core_abbrev.proofs.declaration.AbbreviationPartialEq.eq.Goals as goal

-- equal parts are left out
parts : (n m t u : ℕ) (b c p : Bool) → n ≡ m → true ≡ eqb t u → beq b c ≡ true
    → p ≡ (nat_eq n m && (nat_eq t u && (beq b c && p)))
parts n m t u b c p code tag children = rw (eq-eqb n m code, sym tag, children) refl

pub returns-then-self-other-2 : goal.returns-then-self-other-2
returns-then-self-other-2 c =
    c.eq-then-self-other-2.ensures
    ∙ sym (pointwise-map attribute_view is_same_attribute c.self.inside.attributes.now c.other.inside.attributes.now)
    ∙ parts _ _ _ _ _ _ _ c.if-self-other.true (c.if-eq.ensures {u = tt}) c.if-self-other-2.true
    ∙ ap (λ (d : Declaration). is_same_declaration d (declaration_of_parts c.other.inside.code c.other.inside.head
    (map attribute_view c.other.inside.attributes.now))) c.self.view_is
    ∙ ap (λ (d : Declaration). is_same_declaration c.args.self.now d) c.other.view_is
