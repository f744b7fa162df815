-- How a list of attributes grows by one that is read.
use Rattle.std.proofs.Common.{◌≡◌, ℕ, ◌+◌, ◌<◌, List, [], ◌∷◌, ◌++◌, length, map, get_or, drop, Result, Ok, Err, sym, ◌∙◌, ap}
use Rattle.std.proofs.lemmas.List.{drop_more}
use Rattle.gimli_core_base.specs.declared.error.Error.{Error}
use Rattle.gimli_core_base.specs.View.{View}
use Rattle.gimli_core_base.specs.Parsers.{proceed, give, map_value}
use Rattle.gimli_core_base.proofs.StepParts.{begins, value_is, state_is}
use Rattle.gimli_core_base.proofs.Times.{prepend}
use Rattle.gimli_core_base.specs.declared.common.Encoding.{Encoding}
use Rattle.gimli_units_forms.specs.AttributeSpecification.{AttributeSpecification}
use Rattle.gimli_units_forms.specs.AbbreviationViews.{attribute_view}
use Rattle.gimli_units_forms.specs.AttributeReading.{attribute, attributes}
use Rattle.gimli_units_forms.specs.AttributeValues.{RawAttribute}
use Rattle.gimli_units_entries.proofs.AttributeListLemmas.{attributes_item, attributes_stop}

-- a further attribute comes after those that were read
pub attributes_push : (limit : ℕ) (e : Encoding) (ss : List AttributeSpecification) (i : ℕ) (d : AttributeSpecification)
    (xs ys : List RawAttribute) (v w : View) (whole : Result (List RawAttribute × View) Error) → i < length ss
    → map_value (λ a. xs ++ a ∷ []) (attribute limit e (attribute_view (get_or ss i d))) v ≡ Ok (ys, w)
    → prepend xs (attributes limit e (map attribute_view (drop i ss)) v) ≡ whole
    → prepend ys (attributes limit e (map attribute_view (drop (i + 1) ss)) w) ≡ whole
attributes_push limit e ss i d xs ys v w whole lt h is =
    let rest = map attribute_view (drop (i + 1) ss) in
    let b = begins (attribute limit e (attribute_view (get_or ss i d)) v) (λ a. give (xs ++ a ∷ [])) ys w h in
    ap (λ (all : List RawAttribute). prepend all (attributes limit e rest w))
    (sym (value_is (xs ++ b.0 ∷ []) ys b.1 w b.3))
    ∙ ap (λ (u : View). prepend (xs ++ b.0 ∷ []) (attributes limit e rest u))
    (sym (state_is (xs ++ b.0 ∷ []) ys b.1 w b.3))
    ∙ sym (attributes_item limit e (attribute_view (get_or ss i d)) rest xs b.0 v b.1 b.2)
    ∙ ap (λ (left : List AttributeSpecification). prepend xs (attributes limit e (map attribute_view left) v))
    (sym (drop_more ss i d lt))
    ∙ is

-- what is refused where a value is made of it was refused before
proceed-fault : (r : Result (RawAttribute × View) Error) (f : RawAttribute → List RawAttribute) (fault : Error)
    → proceed r (λ a. give (f a)) ≡ Err fault → r ≡ Err fault
proceed-fault (Ok r) f fault h = absurd cc
proceed-fault (Err e) f fault h =
    let is : e ≡ fault = cc in
    ap (λ (x : Error). refusal x) is
  where
    refusal : Error → Result (RawAttribute × View) Error
    refusal x = Err x

pub attributes_push_fault : (limit : ℕ) (e : Encoding) (ss : List AttributeSpecification) (i : ℕ)
    (d : AttributeSpecification) (xs : List RawAttribute) (v : View) (fault : Error)
    (whole : Result (List RawAttribute × View) Error) → i < length ss
    → map_value (λ a. xs ++ a ∷ []) (attribute limit e (attribute_view (get_or ss i d))) v ≡ Err fault
    → prepend xs (attributes limit e (map attribute_view (drop i ss)) v) ≡ whole → whole ≡ Err fault
attributes_push_fault limit e ss i d xs v fault whole lt h is =
    attributes_stop limit e ss i d xs v fault whole lt
    (proceed-fault (attribute limit e (attribute_view (get_or ss i d)) v) (λ a. xs ++ a ∷ []) fault h) is
