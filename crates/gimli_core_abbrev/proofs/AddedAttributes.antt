-- Attributes that were put after those of a list.
use Rattle.std.proofs.Common.{◌≡◌, List, [], ◌∷◌, ◌++◌, length, map, drop, sym, ap, ◌∙◌, append_assoc}
use Rattle.std.proofs.lemmas.List.{append-nil, map-append}
use Rattle.std.proofs.Math.Seq.{drop-append_seam}
use Rattle.gimli_core_abbrev.specs.declared.abbreviation.AttributeSpecification.{AttributeSpecification}
use Rattle.gimli_core_abbrev.specs.AbbreviationViews.{attribute_view, added, added_view, Extends}

abbrev Specifications : Type 0
Specifications = List AttributeSpecification

pub added_is : (old more new : Specifications) → new ≡ old ++ more → added old new ≡ more
added_is old more new e = ap (λ (xs : Specifications). drop (length old) xs) e ∙ drop-append_seam old more

pub extends_by : (old more new : Specifications) → new ≡ old ++ more → Extends old new
extends_by old more new e = e ∙ ap (λ (xs : Specifications). old ++ xs) (sym (added_is old more new e))

pub added_none : (old : Specifications) → added old old ≡ []
added_none old = added_is old [] old (sym (append-nil old))

pub extends_none : (old : Specifications) → Extends old old
extends_none old = extends_by old [] old (sym (append-nil old))

-- more of them after those
after_added : (old now more new : Specifications) → Extends old now → new ≡ now ++ more
    → new ≡ old ++ (added old now ++ more)
after_added old now more new was e =
    e ∙ ap (λ (xs : Specifications). xs ++ more) was ∙ append_assoc old (added old now) more

pub extends_further : (old now more new : Specifications) → Extends old now → new ≡ now ++ more → Extends old new
extends_further old now more new was e =
    extends_by old (added old now ++ more) new (after_added old now more new was e)

pub added_further : (old now more new : Specifications) → Extends old now → new ≡ now ++ more
    → added old new ≡ added old now ++ more
added_further old now more new was e =
    added_is old (added old now ++ more) new (after_added old now more new was e)

pub view_further : (old now new : Specifications) (a : AttributeSpecification) → Extends old now → new ≡ now ++ a ∷ []
    → added_view old new ≡ added_view old now ++ attribute_view a ∷ []
view_further old now new a was e =
    ap (map attribute_view) (added_further old now (a ∷ []) new was e)
    ∙ map-append attribute_view (added old now) (a ∷ [])

pub view_none : (old : Specifications) → added_view old old ≡ []
view_none old = ap (map attribute_view) (added_none old)

pub view_more : (old now new : Specifications) → Extends old now → Extends now new
    → added_view old new ≡ added_view old now ++ added_view now new
view_more old now new was more =
    ap (map attribute_view) (added_further old now (added now new) new was more)
    ∙ map-append attribute_view (added old now) (added now new)
