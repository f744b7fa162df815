-- The first attributes of other names, which are passed: how they go on by one, and what comes after them.
use Rattle.std.proofs.Common.{◌≡◌, ℕ, ◌+◌, ◌-◌, ◌^◌, ◌<◌, ◌≤◌, Bool, false, cond, List, [], ◌∷◌, ◌++◌, length, map, get_or, take, drop, Ok, Err, refl, sym, ap, subst, ◌∙◌, arith, length-drop, append_assoc}
use Rattle.std.specs.Prelude.{All}
use Rattle.std.proofs.lemmas.List.Elements.{All-nil, All-head, All-tail, All-push, All-drop, filter-append}
use Rattle.gimli_core_base.specs.declared.common.Encoding.{Encoding}
use Rattle.gimli_core_base.specs.declared.constants.DwAt.{DwAt}
use Rattle.gimli_core_base.specs.View.{View, after, bytes_left}
use Rattle.gimli_core_base.specs.Parsers.{proceed, give}
use Rattle.gimli_core_base.proofs.StepParts.{begins, value_is, state_is, read}
use Rattle.gimli_core_base.proofs.Times.{prepend}
use Rattle.gimli_units_forms.specs.Declarations.{Attribute}
use Rattle.gimli_units_forms.specs.AttributeReading.{attribute, attributes}
use Rattle.gimli_units_forms.specs.AttributeValues.{RawAttribute}
use Rattle.gimli_units_forms.proofs.PlaceLemmas.{after-zero}
use Rattle.gimli_units_forms.proofs.RunLemmas.{run-Ok, run-run}
use Rattle.gimli_units_entries.specs.EntryWalks.{Walk, values, walk_with_rest, read_in_walk}
use Rattle.gimli_units_entries.specs.NamedAttributes.{is_name_of, of_names, named_attributes, PassesOthers}
use Rattle.gimli_units_entries.specs.SureWidths.{IsByte, IsSure}
use Rattle.gimli_units_entries.proofs.AttributeListLemmas.{attributes_item, attributes_end}
use Rattle.gimli_units_entries.proofs.NamedAttributeLemmas.{Attributes, prepend-none, prepend-prepend, attribute-name, all_from_first}

-- after some bytes, and then after more
after_after : (m n : ℕ) (v : View) → n + m ≤ bytes_left v → after m (after n v) ≡ after (n + m) v
after_after m n v there =
    let left = length-drop n v.bytes in
    let first = run-Ok n v (omega (arith, there)) in
    let second = run-Ok m (after n v) (omega (arith, there, left)) in
    state_is tt tt (after m (after n v)) (after (n + m) v)
    (sym (run-run n m v (after n v) (after m (after n v)) first second) ∙ run-Ok (n + m) v there)

-- ---- attributes of two lists of declarations

pub attributes_append : (limit : ℕ) (e : Encoding) (first rest : List Attribute) (v w : View)
    (passed : List RawAttribute) → attributes limit e first v ≡ Ok (passed, w)
    → attributes limit e (first ++ rest) v ≡ prepend passed (attributes limit e rest w)
unfolding attributes
attributes_append limit e [] rest v w passed h =
    let none = value_is [] passed v w h in
    sym (prepend-none (attributes limit e rest v))
    ∙ ap (λ (xs : List RawAttribute). prepend xs (attributes limit e rest v)) none
    ∙ ap (λ (u : View). prepend passed (attributes limit e rest u)) (state_is [] passed v w h)
attributes_append limit e (s ∷ ss) rest v w passed h =
    let b =
    begins (attribute limit e s v) (λ a u. proceed (attributes limit e ss u) (λ more. give (a ∷ more))) passed w h in
    let c = begins (attributes limit e ss b.1) (λ more. give (b.0 ∷ more)) passed w b.3 in
    sym (prepend-none (attributes limit e (s ∷ ss ++ rest) v))
    ∙ attributes_item limit e s (ss ++ rest) [] b.0 v b.1 b.2
    ∙ ap (prepend (b.0 ∷ [])) (attributes_append limit e ss rest b.1 c.1 c.0 c.2)
    ∙ prepend-prepend (b.0 ∷ []) c.0 (attributes limit e rest c.1)
    ∙ ap (λ (xs : List RawAttribute). prepend xs (attributes limit e rest c.1)) (value_is (b.0 ∷ c.0) passed c.1 w c.3)
    ∙ ap (λ (u : View). prepend passed (attributes limit e rest u)) (state_is (b.0 ∷ c.0) passed c.1 w c.3)

attributes_one : (limit : ℕ) (e : Encoding) (s : Attribute) (v w : View) (a : RawAttribute)
    → attribute limit e s v ≡ Ok (a, w) → attributes limit e (s ∷ []) v ≡ read (a ∷ []) w
attributes_one limit e s v w a h =
    sym (prepend-none (attributes limit e (s ∷ []) v)) ∙ attributes_item limit e s [] [] a v w h
    ∙ attributes_end limit e (a ∷ []) w

-- ---- the attributes of a list that are passed

module _ {X : Type 0} (view : X → Attribute) (limit : ℕ) (names : List DwAt) (e : Encoding) (all : List Attribute)
    (v : View) where
  -- before the first
  pub passes-none : PassesOthers names (attributes limit e) all v all (after 0 v)
  unfolding attributes
  passes-none = record {
    first = [];
    passed = [];
    divided = refl;
    reads = ap (read []) (sym (after-zero v));
    others = All-nil (λ a. is_name_of names a.name ≡ false);
  }

  -- one more, that is sure
  pub passes-more : (xs : List X) (d : X) (run width wider : ℕ) → 0 < length xs
      → IsSure width e (view (get_or xs 0 d)) → is_name_of names (view (get_or xs 0 d)).name ≡ false → 2 ^ 32 ≤ limit
      → All IsByte v.bytes → wider ≡ run + width → wider ≤ bytes_left v
      → PassesOthers names (attributes limit e) all v (map view xs) (after run v)
      → PassesOthers names (attributes limit e) all v (map view (take (length xs - 1) (drop 1 xs))) (after wider v)
  passes-more xs d run width wider some sure other wide bytes is there p =
      let s = view (get_or xs 0 d) in
      let rest = map view (take (length xs - 1) (drop 1 xs)) in
      let left = length-drop run v.bytes in
      let r =
      sure.at limit (after run v) wide (All-drop IsByte run v.bytes bytes) (omega (arith, left, is, there)) in
      let name = ap (is_name_of names) (sym (attribute-name limit e s (after run v) (after width (after run v)) r.found
      r.reads)) ∙ other in
      let place : after width (after run v) ≡ after wider v =
      after_after width run v (omega (arith, is, there)) ∙ ap (λ (n : ℕ). after n v) (sym is) in
      record {
        first = p.first ++ s ∷ [];
        passed = p.passed ++ r.found ∷ [];
        divided = append_assoc p.first (s ∷ []) rest ∙ ap (λ (ss : List Attribute). p.first ++ ss)
            (sym (all_from_first view xs d some)) ∙ p.divided;
        reads = attributes_append limit e p.first (s ∷ []) v (after run v) p.passed p.reads
            ∙ ap (prepend p.passed) (attributes_one limit e s (after run v) (after width (after run v)) r.found r.reads)
            ∙ ap (λ (u : View). read (p.passed ++ r.found ∷ []) u) place;
        others = All-push (λ a. is_name_of names a.name ≡ false) p.passed r.found p.others name;
      }

-- ---- the attributes of the names

none_of_names : (names : List DwAt) (xs : List RawAttribute) → All (λ a. is_name_of names a.name ≡ false) xs
    → of_names names xs ≡ []
none_of_names names [] others = refl
none_of_names names (a ∷ xs) others =
    let P = λ (b : RawAttribute). is_name_of names b.name ≡ false in
    ap (λ (b : Bool). cond b (a ∷ of_names names xs) (of_names names xs)) (All-head P a xs others)
    ∙ none_of_names names xs (All-tail P a xs others)

after_others : (names : List DwAt) (passed : List RawAttribute) (r : Attributes) → of_names names passed ≡ []
    → proceed (prepend passed r) (λ xs. give (of_names names xs)) ≡ proceed r (λ xs. give (of_names names xs))
after_others names passed (Ok r) none =
    ap (λ (xs : List RawAttribute). read xs r.1)
    (filter-append (λ a. is_name_of names a.name) passed r.0
    ∙ ap (λ (xs : List RawAttribute). xs ++ of_names names r.0) none)
after_others names passed (Err d) none = refl

-- those of the names are among what is left
pub named-passed : (limit : ℕ) (names : List DwAt) (e : Encoding) (all left : List Attribute) (v w : View)
    → PassesOthers names (attributes limit e) all v left w
    → named_attributes limit names e left w ≡ named_attributes limit names e all v
named-passed limit names e all left v w p =
    sym (ap (λ (ss : List Attribute). named_attributes limit names e ss v) (sym p.divided)
    ∙ ap (λ (r : Attributes). proceed r (λ xs. give (of_names names xs)))
    (attributes_append limit e p.first left v w p.passed p.reads)
    ∙ after_others names p.passed (attributes limit e left w) (none_of_names names p.passed p.others))

-- ---- walks

-- attributes that are passed from the walk's place on
pub passes-in_walk : (limit : ℕ) (names : List DwAt) (all left : List Attribute) (w w' : Walk) (n : ℕ) (t : View)
    → w ≡ w' → PassesOthers names (attributes limit w.encoding) all w.rest left (after n w.rest) → t ≡ after n w.rest
    → PassesOthers names (values limit) all w' left (walk_with_rest t w)
unfolding values
passes-in_walk limit names all left w w' n t same p is =
    let here : PassesOthers names (values limit) all w left (walk_with_rest t w) = record {
      first = p.first;
      passed = p.passed;
      divided = p.divided;
      reads = ap (read_in_walk w) (p.reads ∙ ap (λ (v : View). read p.passed v) (sym is));
      others = p.others;
    } in
    subst (λ (x : Walk). PassesOthers names (values limit) all x left (walk_with_rest t w)) same here
