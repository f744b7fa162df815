-- Where the declarations of a list are found: at the places of their codes.
use Rattle.std.proofs.Common.{◌≡◌, ℕ, zero, suc, ◌-◌, ◌<◌, ◌≤◌, Bool, true, false, cond, not, ◌||◌, eqb, ltb, List, [], ◌∷◌, ◌++◌, length, drop, Option, Some, None, is_some, option_map, refl, sym, ap, subst, ◌∙◌, inl, inr, arith}
use Rattle.std.specs.Ordering.{nat_cmp, is_eq}
use Rattle.std.specs.declared.cmp.Ordering.TheVariants.{Less, Equal, Greater}
use Rattle.std.specs.Cmp.{nat_cmp_is}
use Rattle.std.specs.BTreeMap.{is_at}
use Rattle.std.specs.List.{slice_get}
use Rattle.std.proofs.Math.Bool.{or-true}
use Rattle.std.proofs.lemmas.Bool.{cases_lt, cases_order, cases_eq, le-ltb, lt-ltb, eq-eqb, ne_eqb, eqb-true}
use Rattle.gimli_core_abbrev.specs.Declarations.{Declaration, declaration_at, has_code, by_code, repeated_after, repeated_code}
use Rattle.gimli_core_abbrev.specs.TableLayout.{place_in, place_in_order, place_of, at_place, IsLayout}
use Rattle.gimli_core_abbrev.proofs.TableCollection.{is_some-map, none_later, repeated_push, found_by_code}

-- ---- keys

-- a look-up by the key is one by the code
pub key_test : (code key : ℕ) → is_eq (nat_cmp code key) ≡ eqb key code
key_test code key = elim (cases_order code key) [
  | inr (inl less) ↦ ap is_eq (sym (nat_cmp_is code key Less less)) ∙ sym (ne_eqb key code (λ e. omega (arith, e)))
  | inl same ↦ ap is_eq (sym (nat_cmp_is code key Equal same)) ∙ sym (eq-eqb key code (sym same))
  | inr (inr more) ↦ ap is_eq (sym (nat_cmp_is code key Greater more)) ∙ sym (ne_eqb key code (λ e. omega (arith, e)))
]

eqb_swap : (a b : ℕ) → eqb a b ≡ eqb b a
eqb_swap a b = elim (cases_eq a b) [
  | inl same ↦ eq-eqb a b same ∙ sym (eq-eqb b a (sym same))
  | inr other ↦ ne_eqb a b other ∙ sym (ne_eqb b a (λ e. other (sym e)))
]

-- a key of a map is compared with a place as the numbers are
pub place_test : (a b : ℕ) → is_at (nat_cmp a) b ≡ eqb a b
place_test a b = key_test a b ∙ eqb_swap b a

-- ---- the place of a code

-- one, else the other
abbrev place_or : Option ℕ → Option ℕ → Option ℕ
place_or (Some p) o = Some p
place_or None o = o

place_or-None : (o : Option ℕ) → place_or o None ≡ o
place_or-None (Some p) = refl
place_or-None None = refl

place_in-push : (code : ℕ) (ds : List Declaration) (d : Declaration)
    → place_in code (ds ++ d ∷ []) ≡ place_or (place_in code ds) (cond (eqb d.code code) (Some (length ds)) None)
place_in-push code [] d = single (eqb d.code code)
  where
    single : (b : Bool) → cond b (Some 0) None ≡ cond b (Some (length {A = Declaration} [])) None
    single true = refl
    single false = refl
place_in-push code (x ∷ ds) d = by_test (eqb x.code code) (eqb d.code code) (place_in-push code ds d)
  where
    later : (b : Bool) (o : Option ℕ) → option_map suc (place_or o (cond b (Some (length ds)) None))
        ≡ place_or (option_map suc o) (cond b (Some (length (x ∷ ds))) None)
    later true None = refl
    later false None = refl
    later b (Some p) = refl

    by_test : (a b : Bool) → place_in code (ds ++ d ∷ [])
        ≡ place_or (place_in code ds) (cond b (Some (length ds)) None)
        → cond a (Some 0) (option_map suc (place_in code (ds ++ d ∷ [])))
        ≡ place_or (cond a (Some 0) (option_map suc (place_in code ds))) (cond b (Some (length (x ∷ ds))) None)
    by_test true b rest = refl
    by_test false b rest = ap (option_map suc) rest ∙ later b (place_in code ds)

place_in-absent : (code : ℕ) (ds : List Declaration) → declaration_at code ds ≡ None → place_in code ds ≡ None
place_in-absent code [] e = refl
place_in-absent code (x ∷ ds) e =
    let other = none_later (eqb x.code code) x (declaration_at code ds) e in
    rw other.0 (ap (option_map suc) (place_in-absent code ds other.1))

place_there : (code : ℕ) (ds : List Declaration) → is_some (place_in code ds) ≡ is_some (declaration_at code ds)
place_there code [] = refl
place_there code (x ∷ ds) = by_test (eqb x.code code) (place_there code ds)
  where
    by_test : (b : Bool) → is_some (place_in code ds) ≡ is_some (declaration_at code ds)
        → is_some (cond b (Some 0) (option_map suc (place_in code ds)))
        ≡ is_some (cond b (Some x) (declaration_at code ds))
    by_test true h = refl
    by_test false h = is_some-map suc (place_in code ds) ∙ h

-- a code has a place where a declaration has it
pub place_known : (ds : List Declaration) (n : ℕ) (others : ℕ → Option ℕ) → IsLayout ds n others → (code : ℕ)
    → is_some (place_of n others code) ≡ is_some (declaration_at code ds)
place_known ds n others layout code = ap is_some (layout.places code) ∙ place_there code ds

pub place_above : (n code : ℕ) (others : ℕ → Option ℕ) → n < code → place_of n others code ≡ others code
place_above n code others lt =
    ap (λ (b : Bool). cond b (others code) (place_in_order code)) (lt-ltb n code lt)

pub place_below : (n code : ℕ) (others : ℕ → Option ℕ) → code ≤ n → is_some (place_of n others code) ≡ not (eqb code 0)
place_below n code others le =
    ap (λ (b : Bool). is_some (cond b (others code) (place_in_order code))) (le-ltb n code le) ∙ by_number code
  where
    by_number : (k : ℕ) → is_some (place_in_order k) ≡ not (eqb k 0)
    by_number zero = refl
    by_number (suc k) = ap not (sym (ne_eqb (suc k) 0 (λ e. omega (arith, e))))

-- ---- one declaration more

once_more : (ds : List Declaration) (d : Declaration) → repeated_code ds ≡ None → declaration_at d.code ds ≡ None
    → repeated_code (ds ++ d ∷ []) ≡ None
once_more ds d once absent = repeated_push ds d once (found_by_code d.code ds once ∙ absent)

-- the places where the new one is at the end
place_more : (ds : List Declaration) (d : Declaration) (code : ℕ) (new old : Option ℕ)
    → old ≡ place_in code ds → declaration_at d.code ds ≡ None
    → (d.code ≡ code → new ≡ Some (length ds)) → ((d.code ≡ code → ⊥) → new ≡ old)
    → new ≡ place_in code (ds ++ d ∷ [])
place_more ds d code new old was absent same other = elim (cases_eq d.code code) [
  | inl e ↦
      same e
      ∙ sym (place_in-push code ds d
      ∙ ap (λ (b : Bool). place_or (place_in code ds) (cond b (Some (length ds)) None)) (eq-eqb d.code code e)
      ∙ ap (λ (o : Option ℕ). place_or o (Some (length ds)))
      (ap (λ (c : ℕ). place_in c ds) (sym e) ∙ place_in-absent d.code ds absent))
  | inr ne ↦
      other ne ∙ was
      ∙ sym (place_in-push code ds d
      ∙ ap (λ (b : Bool). place_or (place_in code ds) (cond b (Some (length ds)) None)) (ne_eqb d.code code ne)
      ∙ place_or-None (place_in code ds))
]

-- it is the next in order
pub next_in_order : (ds : List Declaration) (n : ℕ) (others : ℕ → Option ℕ) (d : Declaration) → IsLayout ds n others
    → n ≡ length ds → d.code ≡ suc n → declaration_at d.code ds ≡ None → IsLayout (ds ++ d ∷ []) (suc n) others
next_in_order ds n others d layout all next absent = record {
  places = λ code. place_more ds d code (place_of (suc n) others code) (place_of n others code) (layout.places code)
      absent (here code) (there code);
  once = once_more ds d layout.once absent;
}
  where
    here : (code : ℕ) → d.code ≡ code → place_of (suc n) others code ≡ Some (length ds)
    here code e =
        rw (← e, next, le-ltb (suc n) (suc n) (omega arith))
        (ap (λ (k : ℕ). Some k) all)

    there : (code : ℕ) → (d.code ≡ code → ⊥) → place_of (suc n) others code ≡ place_of n others code
    there code ne = elim (cases_lt n code) [
      | inl above ↦
          rw (lt-ltb n code above, lt-ltb (suc n) code (omega (arith, above, next, ne)))
          refl
      | inr below ↦ rw (le-ltb n code below, le-ltb (suc n) code (omega (arith, below))) refl
    ]

-- its place is with the others
pub other_place : (ds : List Declaration) (n : ℕ) (others new : ℕ → Option ℕ) (d : Declaration) → IsLayout ds n others
    → 0 < d.code → declaration_at d.code ds ≡ None
    → ((code : ℕ) → new code ≡ cond (is_at (nat_cmp d.code) code) (Some (length ds)) (others code))
    → IsLayout (ds ++ d ∷ []) n new
other_place ds n others new d layout counts absent is = record {
  places = λ code. place_more ds d code (place_of n new code) (place_of n others code) (layout.places code) absent
      (here code) (there code);
  once = once_more ds d layout.once absent;
}
  where
    in_order : (code : ℕ) → 0 < code → place_in_order code ≡ None → ⊥
    in_order zero some e = omega arith
    in_order (suc k) some e = cc

    above : n < d.code
    above = elim (cases_lt n d.code) [
      | inl lt ↦ lt
      | inr le ↦ absurd (in_order d.code counts
          (ap (λ (b : Bool). cond b (others d.code) (place_in_order d.code)) (sym (le-ltb n d.code le))
          ∙ layout.places d.code ∙ place_in-absent d.code ds absent))
    ]

    here : (code : ℕ) → d.code ≡ code → place_of n new code ≡ Some (length ds)
    here code e =
        rw (← e, lt-ltb n d.code above)
        (is d.code ∙ ap (λ (b : Bool). cond b (Some (length ds)) (others d.code))
        (place_test d.code d.code ∙ eq-eqb d.code d.code refl))

    there : (code : ℕ) → (d.code ≡ code → ⊥) → place_of n new code ≡ place_of n others code
    there code ne =
        ap (λ (o : Option ℕ). cond (ltb n code) o (place_in_order code))
        (is code ∙ ap (λ (b : Bool). cond b (Some (length ds)) (others code))
        (place_test d.code code ∙ ne_eqb d.code code ne))

-- ---- from a place on

-- none of those after one has its code
absent_after : (code : ℕ) (before ds : List Declaration) → has_code code before ≡ true
    → repeated_after before ds ≡ None → (from : ℕ) → declaration_at code (drop from ds) ≡ None
absent_after code before [] there once zero = refl
absent_after code before [] there once (suc n) = refl
absent_after code before (x ∷ ds) there once from =
    by_place from (λ n. absent_after code (x ∷ before) ds both here.1 n)
  where
    here : (has_code x.code before ≡ false) × (repeated_after (x ∷ before) ds ≡ None)
    here = none_later (has_code x.code before) x.code (repeated_after (x ∷ before) ds) once

    other : eqb x.code code ≡ false
    other = ne_eqb x.code code
        (λ e. let no : true ≡ false = sym there ∙ ap (λ (c : ℕ). has_code c before) (sym e) ∙ here.0 in cc)

    both : (eqb x.code code || has_code code before) ≡ true
    both = ap (λ (b : Bool). eqb x.code code || b) there ∙ or-true (eqb x.code code)

    by_place : (n : ℕ) → ((m : ℕ) → declaration_at code (drop m ds) ≡ None)
        → declaration_at code (drop n (x ∷ ds)) ≡ None
    by_place zero rest = rw other (rest 0)
    by_place (suc n) rest = rest n

ltb_suc : (p q : ℕ) → ltb (suc p) (suc q) ≡ ltb p q
ltb_suc p q = elim (cases_lt p q) [
  | inl less ↦ lt-ltb (suc p) (suc q) (omega (arith, less)) ∙ sym (lt-ltb p q less)
  | inr le ↦ le-ltb (suc p) (suc q) (omega (arith, le)) ∙ sym (le-ltb p q le)
]

at_place-suc : (from : ℕ) (o : Option ℕ) (x : Declaration) (ds : List Declaration)
    → at_place (suc from) (option_map suc o) (x ∷ ds) ≡ at_place from o ds
at_place-suc from None x ds = refl
at_place-suc from (Some p) x ds =
    ap (λ (b : Bool). cond {A = Option Declaration} b None (slice_get ds p)) (ltb_suc p from)

at_place-zero : (o : Option ℕ) (x : Declaration) (ds : List Declaration)
    → at_place 0 (option_map suc o) (x ∷ ds) ≡ at_place 0 o ds
at_place-zero None x ds = refl
at_place-zero (Some p) x ds = rw (le-ltb (suc p) 0 (omega arith), le-ltb p 0 (omega arith)) refl

at_place_in : (before ds : List Declaration) (from code : ℕ) → repeated_after before ds ≡ None
    → at_place from (place_in code ds) ds ≡ declaration_at code (drop from ds)
at_place_in before [] zero code once = refl
at_place_in before [] (suc n) code once = refl
at_place_in before (x ∷ ds) zero code once =
    by_test (eqb x.code code) (at_place_in (x ∷ before) ds 0 code here.1)
  where
    here : (has_code x.code before ≡ false) × (repeated_after (x ∷ before) ds ≡ None)
    here = none_later (has_code x.code before) x.code (repeated_after (x ∷ before) ds) once

    by_test : (b : Bool) → at_place 0 (place_in code ds) ds ≡ declaration_at code ds
        → at_place 0 (cond b (Some 0) (option_map suc (place_in code ds))) (x ∷ ds)
        ≡ cond b (Some x) (declaration_at code ds)
    by_test true rest = refl
    by_test false rest = at_place-zero (place_in code ds) x ds ∙ rest
at_place_in before (x ∷ ds) (suc n) code once =
    by_test (eqb x.code code) refl (at_place_in (x ∷ before) ds n code here.1)
  where
    here : (has_code x.code before ≡ false) × (repeated_after (x ∷ before) ds ≡ None)
    here = none_later (has_code x.code before) x.code (repeated_after (x ∷ before) ds) once

    by_test : (b : Bool) → eqb x.code code ≡ b
        → at_place n (place_in code ds) ds ≡ declaration_at code (drop n ds)
        → at_place (suc n) (cond b (Some 0) (option_map suc (place_in code ds))) (x ∷ ds)
        ≡ declaration_at code (drop n ds)
    by_test true e rest =
        ap (λ (b : Bool). cond {A = Option Declaration} b None (Some x)) (lt-ltb 0 (suc n) (omega arith))
        ∙ sym (absent_after code (x ∷ before) ds (ap (λ (b : Bool). b || has_code code before) e) here.1 n)
    by_test false e rest = at_place-suc n (place_in code ds) x ds ∙ rest

-- fewer of them before
fewer_before : (old new ds : List Declaration)
    → ((code : ℕ) → has_code code old ≡ false → has_code code new ≡ false) → repeated_after old ds ≡ None
    → repeated_after new ds ≡ None
fewer_before old new [] fewer once = refl
fewer_before old new (x ∷ ds) fewer once =
    let here = none_later (has_code x.code old) x.code (repeated_after (x ∷ old) ds) once in
    rw (fewer x.code here.0) (fewer_before (x ∷ old) (x ∷ new) ds
    (λ code. by_test (eqb x.code code) (has_code code old) (has_code code new) (fewer code)) here.1)
  where
    by_test : (a b c : Bool) → (b ≡ false → c ≡ false) → (a || b) ≡ false → (a || c) ≡ false
    by_test true b c h e = absurd cc
    by_test false b c h e = h e

once_after : (before ds : List Declaration) → repeated_after before ds ≡ None → (from : ℕ)
    → repeated_code (drop from ds) ≡ None
once_after before [] once zero = refl
once_after before [] once (suc n) = refl
once_after before (x ∷ ds) once zero = fewer_before before [] (x ∷ ds) (λ code e. refl) once
once_after before (x ∷ ds) once (suc n) =
    let here = none_later (has_code x.code before) x.code (repeated_after (x ∷ before) ds) once in
    once_after (x ∷ before) ds here.1 n

pub once_from : (ds : List Declaration) → repeated_code ds ≡ None → (from : ℕ) → repeated_code (drop from ds) ≡ None
once_from ds once from = once_after [] ds once from

-- what a code finds from a place on
pub found_from : (ds : List Declaration) (n : ℕ) (others : ℕ → Option ℕ) → IsLayout ds n others → (from code : ℕ)
    → at_place from (place_of n others code) ds ≡ declaration_at code (by_code (drop from ds))
found_from ds n others layout from code =
    ap (λ (o : Option ℕ). at_place from o ds) (layout.places code)
    ∙ at_place_in [] ds from code layout.once
    ∙ sym (found_by_code code (drop from ds) (once_from ds layout.once from))

-- ---- what a look-up gives

place_in_order-is : (code : ℕ) → 0 < code → place_in_order code ≡ Some (code - 1)
place_in_order-is zero h = absurd (omega arith)
place_in_order-is (suc k) h = ap (λ (n : ℕ). Some n) (omega arith)

-- one of those in order
place_is : (ds : List Declaration) (n : ℕ) (others : ℕ → Option ℕ) (code : ℕ) → 0 < code → code ≤ n
    → place_of n others code ≡ Some (code - 1)
place_is ds n others code some le =
    ap (λ (b : Bool). cond b (others code) (place_in_order code)) (le-ltb n code le) ∙ place_in_order-is code some

-- the declaration at the place of a code has that code
place_in-code : (code : ℕ) (ds : List Declaration) (p : ℕ) → place_in code ds ≡ Some p
    → option_map (λ d. d.code) (slice_get ds p) ≡ Some code
place_in-code code [] p e = absurd cc
place_in-code code (x ∷ ds) p e = by_test (eqb x.code code) refl (place_in code ds) (place_in-code code ds) e
  where
    by_test : (b : Bool) → eqb x.code code ≡ b → (o : Option ℕ)
        → ((q : ℕ) → o ≡ Some q → option_map (λ d. d.code) (slice_get ds q) ≡ Some code)
        → cond b (Some 0) (option_map suc o) ≡ Some p
        → option_map (λ d. d.code) (slice_get (x ∷ ds) p) ≡ Some code
    by_test true is o k h =
        let first : 0 ≡ p = cc in
        subst (λ (n : ℕ). option_map (λ d. d.code) (slice_get (x ∷ ds) n) ≡ Some code) first
        (ap (λ (c : ℕ). Some c) (eqb-true x.code code is))
    by_test false is None k h = absurd cc
    by_test false is (Some q) k h =
        let later : suc q ≡ p = cc in
        subst (λ (n : ℕ). option_map (λ d. d.code) (slice_get (x ∷ ds) n) ≡ Some code) later (k q refl)

pub code_in_order : (ds : List Declaration) (n : ℕ) (others : ℕ → Option ℕ) → IsLayout ds n others → (code : ℕ)
    → 0 < code → code ≤ n → option_map (λ d. d.code) (slice_get ds (code - 1)) ≡ Some code
code_in_order ds n others layout code some le =
    place_in-code code ds (code - 1) (sym (layout.places code) ∙ place_is ds n others code some le)

pub code_elsewhere : (ds : List Declaration) (n : ℕ) (others : ℕ → Option ℕ) → IsLayout ds n others
    → (code place : ℕ) → n < code → others code ≡ Some place → option_map (λ d. d.code) (slice_get ds place) ≡ Some code
code_elsewhere ds n others layout code place above there =
    place_in-code code ds place
    (sym (layout.places code)
    ∙ ap (λ (b : Bool). cond b (others code) (place_in_order code)) (lt-ltb n code above) ∙ there)

pub found_first : (ds : List Declaration) (n : ℕ) (others : ℕ → Option ℕ) → IsLayout ds n others
    → (from code : ℕ) (d : Declaration) → from < code → code ≤ n → slice_get ds (code - 1) ≡ Some d
    → Some d ≡ declaration_at code (by_code (drop from ds))
found_first ds n others layout from code d above le item =
    sym item
    ∙ ap (λ (b : Bool). cond {A = Option Declaration} b None (slice_get ds (code - 1)))
    (sym (le-ltb (code - 1) from (omega (arith, above))))
    ∙ ap (λ (o : Option ℕ). at_place from o ds) (sym (place_is ds n others code (omega (arith, above)) le))
    ∙ found_from ds n others layout from code

found_other : (ds : List Declaration) (n : ℕ) (others : ℕ → Option ℕ) → IsLayout ds n others → (from code : ℕ)
    → n < code → at_place from (others code) ds ≡ declaration_at code (by_code (drop from ds))
found_other ds n others layout from code above =
    ap (λ (b : Bool). at_place from (cond b (others code) (place_in_order code)) ds) (sym (lt-ltb n code above))
    ∙ found_from ds n others layout from code

pub found_at : (ds : List Declaration) (n : ℕ) (others : ℕ → Option ℕ) → IsLayout ds n others
    → (from code place : ℕ) (d : Declaration) → n < code → others code ≡ Some place → from ≤ place
    → slice_get ds place ≡ Some d → Some d ≡ declaration_at code (by_code (drop from ds))
found_at ds n others layout from code place d above there le item =
    sym item
    ∙ ap (λ (b : Bool). cond {A = Option Declaration} b None (slice_get ds place)) (sym (le-ltb place from le))
    ∙ ap (λ (o : Option ℕ). at_place from o ds) (sym there)
    ∙ found_other ds n others layout from code above

pub not_from : (ds : List Declaration) (n : ℕ) (others : ℕ → Option ℕ) → IsLayout ds n others
    → (from code place : ℕ) → n < code → others code ≡ Some place → place < from
    → None ≡ declaration_at code (by_code (drop from ds))
not_from ds n others layout from code place above there before =
    ap (λ (b : Bool). cond {A = Option Declaration} b None (slice_get ds place)) (sym (lt-ltb place from before))
    ∙ ap (λ (o : Option ℕ). at_place from o ds) (sym there)
    ∙ found_other ds n others layout from code above

pub not_there : (ds : List Declaration) (n : ℕ) (others : ℕ → Option ℕ) → IsLayout ds n others
    → (from code : ℕ) → n < code → others code ≡ None → None ≡ declaration_at code (by_code (drop from ds))
not_there ds n others layout from code above there =
    ap (λ (o : Option ℕ). at_place from o ds) (sym there) ∙ found_other ds n others layout from code above

pub found_before : (ds : List Declaration) (n : ℕ) (others : ℕ → Option ℕ) → IsLayout ds n others → (from code : ℕ)
    → code ≤ from → code ≤ n → None ≡ declaration_at code (by_code (drop from ds))
found_before ds n others layout from code before le =
    sym (none_before code before)
    ∙ ap (λ (b : Bool). at_place from (cond b (others code) (place_in_order code)) ds) (sym (le-ltb n code le))
    ∙ found_from ds n others layout from code
  where
    none_before : (c : ℕ) → c ≤ from → at_place from (place_in_order c) ds ≡ None
    none_before zero h = refl
    none_before (suc k) h =
        ap (λ (b : Bool). cond {A = Option Declaration} b None (slice_get ds k)) (lt-ltb k from (omega (arith, h)))
