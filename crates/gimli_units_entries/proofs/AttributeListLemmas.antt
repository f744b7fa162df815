-- How the attributes of an entry go on by one: what a loop that reads them needs.
use Rattle.std.proofs.Common.{◌≡◌, ℕ, ◌+◌, ◌<◌, ◌≤◌, Bool, true, false, cond, List, [], ◌∷◌, ◌++◌, length, map, get_or, drop, Bor, Option, Some, None, option_map, Result, Ok, Err, refl, sym, ◌∙◌, ap, append_assoc, append-nil}
use Rattle.std.specs.List.{find}
use Rattle.std.proofs.lemmas.List.{drop_all, drop_more}
use Rattle.gimli_core_base.specs.declared.error.Error.{Error}
use Rattle.gimli_core_base.specs.View.{View}
use Rattle.gimli_core_base.specs.Parsers.{proceed, give}
use Rattle.gimli_core_base.proofs.Times.{prepend}
use Rattle.gimli_core_base.specs.declared.common.Encoding.{Encoding}
use Rattle.gimli_units_forms.specs.AttributeSpecification.{AttributeSpecification}
use Rattle.gimli_units_forms.specs.Declarations.{Attribute}
use Rattle.gimli_units_forms.specs.AbbreviationViews.{attribute_view}
use Rattle.gimli_units_forms.specs.AttributeReading.{attribute, attributes}
use Rattle.gimli_units_forms.specs.AttributeValues.{RawAttribute}

-- what is read, and what is left
abbrev read : List RawAttribute → View → Result (List RawAttribute × View) Error
read all v = Ok (all, v)

prepend-onward : (xs : List RawAttribute) (x : RawAttribute) (r : Result (List RawAttribute × View) Error)
    → prepend xs (proceed r (λ ys. give (x ∷ ys))) ≡ prepend (xs ++ x ∷ []) r
prepend-onward xs x (Ok r) = ap (λ (all : List RawAttribute). read all r.1) (sym (append_assoc xs (x ∷ []) r.0))
prepend-onward xs x (Err e) = refl

-- an attribute that is read comes after those before it
pub attributes_item : (limit : ℕ) (e : Encoding) (s : Attribute) (ss : List Attribute) (xs : List RawAttribute)
    (x : RawAttribute) (v w : View) → attribute limit e s v ≡ Ok (x, w)
    → prepend xs (attributes limit e (s ∷ ss) v) ≡ prepend (xs ++ x ∷ []) (attributes limit e ss w)
unfolding attributes
attributes_item limit e s ss xs x v w h =
    ap (λ (r : Result (RawAttribute × View) Error). prepend xs
    (proceed r (λ y u. proceed (attributes limit e ss u) (λ ys. give (y ∷ ys))))) h
    ∙ prepend-onward xs x (attributes limit e ss w)

-- an attribute that can't be read ends them
pub attributes_fault : (limit : ℕ) (e : Encoding) (s : Attribute) (ss : List Attribute) (xs : List RawAttribute)
    (v : View) (d : Error) → attribute limit e s v ≡ Err d → prepend xs (attributes limit e (s ∷ ss) v) ≡ Err d
unfolding attributes
attributes_fault limit e s ss xs v d h =
    ap (λ (r : Result (RawAttribute × View) Error). prepend xs
    (proceed r (λ y u. proceed (attributes limit e ss u) (λ ys. give (y ∷ ys))))) h

-- after the last one nothing is left to read
pub attributes_end : (limit : ℕ) (e : Encoding) (xs : List RawAttribute) (v : View)
    → prepend xs (attributes limit e [] v) ≡ Ok (xs, v)
unfolding attributes
attributes_end limit e xs v = ap (λ (all : List RawAttribute). read all v) (append-nil xs)

-- over a list of declarations, of which some are read
pub attributes_stop : (limit : ℕ) (e : Encoding) (ss : List AttributeSpecification) (i : ℕ) (d : AttributeSpecification)
    (xs : List RawAttribute) (v : View) (fault : Error) (whole : Result (List RawAttribute × View) Error)
    → i < length ss → attribute limit e (attribute_view (get_or ss i d)) v ≡ Err fault
    → prepend xs (attributes limit e (map attribute_view (drop i ss)) v) ≡ whole → whole ≡ Err fault
attributes_stop limit e ss i d xs v fault whole lt h is =
    sym is
    ∙ ap (λ (left : List AttributeSpecification). prepend xs (attributes limit e (map attribute_view left) v))
    (drop_more ss i d lt)
    ∙ attributes_fault limit e (attribute_view (get_or ss i d)) (map attribute_view (drop (i + 1) ss)) xs v fault h

pub attributes_all : (limit : ℕ) (e : Encoding) (ss : List AttributeSpecification) (i : ℕ) (xs : List RawAttribute)
    (v : View) (whole : Result (List RawAttribute × View) Error) → length ss ≤ i
    → prepend xs (attributes limit e (map attribute_view (drop i ss)) v) ≡ whole → whole ≡ Ok (xs, v)
attributes_all limit e ss i xs v whole le is =
    sym is
    ∙ ap (λ (left : List AttributeSpecification). prepend xs (attributes limit e (map attribute_view left) v))
    (drop_all i ss le)
    ∙ attributes_end limit e xs v

-- the first of the things seen is what is seen of the first one
pub find-map : {X Y : Type 0} (p : Y → Bool) (f : X → Y) (xs : List X)
    → find p (map f xs) ≡ option_map f (find (λ x. p (f x)) xs)
find-map p f [] = refl
find-map {X} {Y} p f (x ∷ xs) =
    elim (p (f x)) as (λ b. cond b (Some (f x)) (find p (map f xs))
    ≡ option_map f (cond b (Some x) (find (λ y. p (f y)) xs))) [ true ↦ refl | false ↦ find-map p f xs ]

-- the same for one that is lent
pub find-lent : {X Y : Type 0} (p : Y → Bool) (f : X → Y) (xs : List X) (o : Option (Bor X))
    → option_map (λ x. x.now) o ≡ find (λ x. p (f x)) xs → option_map (λ x. f x.now) o ≡ find p (map f xs)
find-lent {X} {Y} p f xs o h = views_agree o ∙ ap (option_map f) h ∙ sym (find-map p f xs)
  where
    views_agree : (r : Option (Bor X))
        → option_map (λ (x : Bor X). f x.now) r ≡ option_map f (option_map (λ (x : Bor X). x.now) r)
    views_agree None = refl
    views_agree (Some x) = refl
