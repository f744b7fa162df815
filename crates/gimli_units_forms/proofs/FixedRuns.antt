-- The first values of an entry, whose widths their forms alone say, are one run.
use Rattle.std.proofs.Common.{◌≡◌, ℕ, zero, suc, ◌+◌, ◌-◌, ◌≤◌, List, [], ◌∷◌, drop, take, length, Option, Some, None, refl, sym, ap, ◌∙◌, arith}
use Rattle.std.specs.Prelude.{map, option_map, option_and_then}
use Rattle.std.proofs.lemmas.List.{drop-map, length-drop, length-map, take_all}
use Rattle.gimli_core_abbrev.specs.View.{View}
use Rattle.gimli_core_abbrev.specs.Encoding.{Encoding}
use Rattle.gimli_core_abbrev.specs.Declarations.{Attribute}
use Rattle.gimli_core_abbrev.specs.declared.abbreviation.AttributeSpecification.{AttributeSpecification}
use Rattle.gimli_core_abbrev.specs.declared.widths.FixedWidths.{FixedWidths}
use Rattle.gimli_core_abbrev.specs.AbbreviationViews.{attribute_view}
use Rattle.gimli_core_abbrev.specs.FormWidths.{AreWidthsOf, attribute_width, count_of_widths, total_width, sum_of_first}
use Rattle.gimli_units_forms.specs.AttributeSkipping.{way_of, skip_values}
use Rattle.gimli_units_forms.specs.SkippingLaws.{skip_bytes_and_values}
use Rattle.gimli_units_forms.proofs.SkippingLemmas.{skip_ways-by_width}
use Rattle.gimli_units_forms.proofs.WayWidths.{way_width}

-- ---- several values

abbrev some : ℕ → Option ℕ
some n = Some n

-- what sums of widths are made of
sum_parts : {P : Type 0} (o p : Option ℕ) (t : ℕ)
    → option_and_then (λ w. option_map (λ r. w + r) p) o ≡ Some t
    → ((w r : ℕ) → o ≡ Some w → p ≡ Some r → w + r ≡ t → P) → P
sum_parts None p t h f = absurd cc
sum_parts (Some w) None t h f = absurd cc
sum_parts (Some w) (Some r) t h f = let whole : some (w + r) ≡ some t = h in f w r refl refl cc

-- there are as many as the widths are of
pub sum_within : {A : Type 0} (width : A → Option ℕ) (n : ℕ) (xs : List A) (t : ℕ)
    → sum_of_first width n xs ≡ Some t → n ≤ length xs
unfolding sum_of_first
sum_within width zero xs t h = omega arith
sum_within width (suc n) [] t h = absurd cc
sum_within width (suc n) (x ∷ xs) t h =
    sum_parts (width x) (sum_of_first width n xs) t h
    (λ w r _ k _. let less = sum_within width n xs r k in omega arith)

-- the first values are one run
pub skip_first : (e : Encoding) (n : ℕ) (ss : List Attribute) (t k : ℕ) (v : View)
    → sum_of_first (attribute_width e) n ss ≡ Some t
    → skip_bytes_and_values k e ss v ≡ skip_bytes_and_values (k + t) e (drop n ss) v
unfolding sum_of_first
skip_first e zero ss t k v h =
    let start : some zero ≡ some t = h in
    let zero_is : zero ≡ t = cc in
    let same : k ≡ k + t = omega (arith, zero_is) in
    ap (λ (j : ℕ). skip_bytes_and_values j e ss v) same
skip_first e (suc n) [] t k v h = absurd cc
skip_first e (suc n) (s ∷ ss) t k v h =
    sum_parts (attribute_width e s) (sum_of_first (attribute_width e) n ss) t h
    (λ w r j i whole.
    let same : k + w + r ≡ k + t = omega (arith, whole) in
    skip_ways-by_width k w (way_of e s.form) (map (λ (a : Attribute). way_of e a.form) ss) v
    (sym (way_width e s.form ∙ j)) ∙ skip_first e n ss r (k + w) v i
    ∙ ap (λ (x : ℕ). skip_bytes_and_values x e (drop n ss) v) same)

-- the values after the first ones, of a declaration's own list
rest_of : (n : ℕ) (specifications : List AttributeSpecification)
    → take (length specifications - n) (drop n specifications) ≡ drop n specifications
rest_of n specifications =
    ap (λ k. take k (drop n specifications)) (sym (length-drop n specifications))
    ∙ take_all (length (drop n specifications)) (drop n specifications) (omega arith)

-- as many bytes as the widths say, and the values after them, are all values
pub skip_with_widths : (e : Encoding) (w : FixedWidths) (n t : ℕ) (specifications : List AttributeSpecification)
    (ss : List Attribute) (v : View) → n ≡ count_of_widths w → t ≡ total_width e w
    → map attribute_view specifications ≡ ss → AreWidthsOf ss w
    → skip_bytes_and_values t e (map attribute_view (take (length specifications - n) (drop n specifications))) v
    ≡ skip_values e ss v
unfolding skip_values
skip_with_widths e w n t specifications ss v count total same widths =
    let all : 0 + total_width e w ≡ t = omega (arith, total) in
    let left : drop (count_of_widths w) ss
    ≡ map attribute_view (take (length specifications - n) (drop n specifications)) =
    ap (λ (k : ℕ). drop k ss) (sym count) ∙ ap (drop n) (sym same) ∙ drop-map attribute_view n specifications
    ∙ ap (map attribute_view) (sym (rest_of n specifications)) in
    sym (skip_first e (count_of_widths w) ss (total_width e w) 0 v (widths e).sum
    ∙ ap (λ (k : ℕ). skip_bytes_and_values k e (drop (count_of_widths w) ss) v) all
    ∙ ap (λ (l : List Attribute). skip_bytes_and_values t e l v) left)

-- there are as many attributes
pub widths_within : (e : Encoding) (w : FixedWidths) (n : ℕ) (specifications : List AttributeSpecification)
    (ss : List Attribute) → n ≡ count_of_widths w → map attribute_view specifications ≡ ss → AreWidthsOf ss w
    → n ≤ length specifications
widths_within e w n specifications ss count same widths =
    let within = sum_within (attribute_width e) (count_of_widths w) ss (total_width e w) (widths e).sum in
    let many = simp length-map at (ap length same) in
    omega (arith, within, many, count)
