-- Loads that are listed one after the other, that of each unit once.
use Rattle.std.proofs.Common.{◌≡◌, ℕ, inl, inr, arith, ◌==◌, Bool, true, false, not, cond, ◌&&◌, ◌||◌, List, [], ◌∷◌, ◌++◌, filter, Option, Some, None, Result, Ok, refl, sym, ap, ◌∙◌, append_assoc}
use Rattle.std.specs.List.{list_any, cons_option}
use Rattle.std.specs.Ordering.{nat_cmp, is_eq}
use Rattle.std.specs.Cmp.{nat_cmp_is}
use Rattle.std.specs.declared.cmp.Ordering.TheVariants.{Less, Equal, Greater}
use Rattle.std.specs.BTreeMap.{is_at}
use Rattle.std.specs.BTreeSet.{BTreeSet, IsEmpty, contains}
use Rattle.std.proofs.lemmas.Bool.{cases_order, eqb-true, eq-eqb, ne_eqb}
use Rattle.std.proofs.lemmas.List.{append-nil}
use Rattle.std.proofs.lemmas.List.Elements.{filter_agree}
use Rattle.std.proofs.lemmas.List.Folds.{list_any-append}
use Rattle.addr2line_unit.specs.Error.{Error}
use Rattle.addr2line_unit.specs.FirstAnswers.{PendingLoad}
use Rattle.addr2line_unit.specs.Lookups.{other_than, one_each}
use Rattle.addr2line_unit.specs.UnitRange.{UnitRange}
use Rattle.addr2line_unit.specs.ResolvedUnits.{AnsweredUnit}
use Rattle.addr2line_lookups.specs.Preloads.{load_at, loads_at, is_listed, AreNumbersOf, with_load, with_load_if_any}

-- ---- filters

module _ {A : Type 0} (p q : A → Bool) where
  -- two filters are one
  filter_both : (xs : List A) → filter p (filter q xs) ≡ filter (λ x. q x && p x) xs
  filter_both [] = refl
  filter_both (x ∷ xs) =
      elim (q x) as (λ b.
      filter p (cond b (x ∷ filter q xs) (filter q xs))
      ≡ cond (b && p x) (x ∷ filter (λ y. q y && p y) xs) (filter (λ y. q y && p y) xs)) [
        | true ↦
            elim (p x) as (λ b.
            cond b (x ∷ filter p (filter q xs)) (filter p (filter q xs))
            ≡ cond b (x ∷ filter (λ y. q y && p y) xs) (filter (λ y. q y && p y) xs)) [
              | true ↦ ap (λ l. x ∷ l) (filter_both xs)
              | false ↦ filter_both xs
            ]
        | false ↦ filter_both xs
      ]

filter_all : {A : Type 0} (xs : List A) → filter (λ x. true) xs ≡ xs
filter_all [] = refl
filter_all (x ∷ xs) = ap (λ l. x ∷ l) (filter_all xs)

-- ---- the numbers of the units whose loads are listed

-- a number is looked for in a set as numbers are compared
number_test : (key n : ℕ) → is_at (nat_cmp key) n ≡ (n == key)
number_test key n = elim (cases_order key n) [
  | inr (inl less) ↦ ap is_eq (sym (nat_cmp_is key n Less less)) ∙ sym (ne_eqb n key (λ e. omega (arith, e)))
  | inl same ↦ ap is_eq (sym (nat_cmp_is key n Equal same)) ∙ sym (eq-eqb n key (sym same))
  | inr (inr more) ↦ ap is_eq (sym (nat_cmp_is key n Greater more)) ∙ sym (ne_eqb n key (λ e. omega (arith, e)))
]

-- no numbers of no units
pub no_numbers : (ps : List PendingLoad) (s : BTreeSet ℕ) → ps ≡ [] → IsEmpty s → AreNumbersOf ps s
no_numbers ps s none empty n =
    ap (list_any (is_at (nat_cmp n))) empty ∙ sym (ap (λ l. is_listed l n) none)

either : (b x y : Bool) → x ≡ y → cond b true x ≡ (y || (b || false))
either true x true h = refl
either true x false h = refl
either false x true h = h
either false x false h = h

module _ (ps : List PendingLoad) (p : PendingLoad) (old new : BTreeSet ℕ) (before : AreNumbersOf ps old)
    (added : (n : ℕ) → contains nat_cmp new n ≡ cond (is_at (nat_cmp p.number) n) true (contains nat_cmp old n)) where
  added_test : (n : ℕ) → contains nat_cmp new n ≡ cond (n == p.number) true (contains nat_cmp old n)
  added_test n = added n ∙ ap (λ b. cond b true (contains nat_cmp old n)) (number_test p.number n)

  -- one that wasn't listed
  module _ (absent : contains nat_cmp old p.number ≡ false) where
    pub load_added : with_load ps p ≡ ps ++ p ∷ []
    load_added = ap (λ b. cond b ps (ps ++ p ∷ [])) (sym (before p.number) ∙ absent)

    pub numbers_added : AreNumbersOf (ps ++ p ∷ []) new
    numbers_added n =
        added_test n ∙ either (n == p.number) (contains nat_cmp old n) (is_listed ps n) (before n)
        ∙ sym (list_any-append (λ (q : PendingLoad). n == q.number) ps (p ∷ []))

  -- one that was
  module _ (present : contains nat_cmp old p.number ≡ true) where
    pub load_again : with_load ps p ≡ ps
    load_again = ap (λ b. cond b ps (ps ++ p ∷ [])) (sym (before p.number) ∙ present)

    pub numbers_again : AreNumbersOf ps new
    numbers_again n = added_test n ∙ by (n == p.number) refl
      where
        by : (b : Bool) → (n == p.number) ≡ b → cond b true (contains nat_cmp old n) ≡ is_listed ps n
        by true same =
            sym (ap (is_listed ps) (eqb-true n p.number same) ∙ sym (before p.number) ∙ present)
        by false other = before n

-- ---- loads that aren't listed

abbrev is_new : List PendingLoad → PendingLoad → Bool
is_new found p = not (is_listed found p.number)

abbrev others : List PendingLoad → List PendingLoad → List PendingLoad
others found ps = filter (is_new found) ps

-- the loads that are listed, and the first load of each unit of the others
abbrev pub listed_first : List PendingLoad → List PendingLoad → List PendingLoad
listed_first found ps = found ++ others found (one_each ps)

pub listed_none : (found ps : List PendingLoad) → found ≡ [] → listed_first found ps ≡ one_each ps
listed_none found ps none = ap (λ l. listed_first l ps) none ∙ filter_all (one_each ps)

neither : (a b : Bool) → (not a && not b) ≡ not (b || (a || false))
neither true true = refl
neither true false = refl
neither false true = refl
neither false false = refl

module _ (found : List PendingLoad) (p : PendingLoad) where
  abbrev if_new : Bool → List PendingLoad → List PendingLoad
  if_new b ps = cond (not b) (p ∷ others found ps) (others found ps)

  -- listed with one more
  pushed_new : (x : PendingLoad) → (other_than p.number x && is_new found x) ≡ is_new (found ++ p ∷ []) x
  pushed_new x =
      neither (x.number == p.number) (is_listed found x.number)
      ∙ ap not (sym (list_any-append (λ (y : PendingLoad). x.number == y.number) found (p ∷ [])))

  -- one of a unit that is listed
  listed_again : is_listed found p.number ≡ true → (x : PendingLoad)
      → (other_than p.number x && is_new found x) ≡ is_new found x
  listed_again h x = by (x.number == p.number) refl
    where
      by : (b : Bool) → (x.number == p.number) ≡ b → (not b && is_new found x) ≡ is_new found x
      by true is = sym (ap not (ap (is_listed found) (eqb-true x.number p.number is) ∙ h))
      by false is = refl

  by_listed : (ps : List PendingLoad) (b : Bool) → is_listed found p.number ≡ b
      → listed_first found (p ∷ ps) ≡ listed_first (cond b found (found ++ p ∷ [])) ps
  by_listed ps true h =
      ap (λ b. found ++ if_new b (filter (other_than p.number) (one_each ps))) h
      ∙ ap (λ l. found ++ l)
      (filter_both (is_new found) (other_than p.number) (one_each ps)
      ∙ filter_agree (λ x. other_than p.number x && is_new found x) (is_new found) (listed_again h) (one_each ps))
  by_listed ps false h =
      ap (λ b. found ++ if_new b (filter (other_than p.number) (one_each ps))) h
      ∙ ap (λ l. found ++ p ∷ l)
      (filter_both (is_new found) (other_than p.number) (one_each ps)
      ∙ filter_agree (λ x. other_than p.number x && is_new found x) (is_new (found ++ p ∷ [])) pushed_new (one_each ps))
      ∙ sym (append_assoc found (p ∷ []) (others (found ++ p ∷ []) (one_each ps)))

  listed_one : (ps : List PendingLoad) → listed_first found (p ∷ ps) ≡ listed_first (with_load found p) ps
  listed_one ps = by_listed ps (is_listed found p.number) refl

listed_if_any : (found : List PendingLoad) (o : Option PendingLoad) (ps : List PendingLoad)
    → listed_first found (cons_option o ps) ≡ listed_first (with_load_if_any found o) ps
listed_if_any found None ps = refl
listed_if_any found (Some p) ps = listed_one found p ps

abbrev listing : List PendingLoad → Result (List PendingLoad) Error
listing ps = Ok ps

-- after one more range
pub listed_next : (vs : List AnsweredUnit) (r : UnitRange) (old rest : List UnitRange) (found new : List PendingLoad)
    (whole : List PendingLoad) → old ≡ r ∷ rest → listing (with_load_if_any found (load_at vs r.unit)) ≡ Ok new
    → listed_first found (loads_at vs old) ≡ whole
    → listed_first new (loads_at vs rest) ≡ whole
listed_next vs r old rest found new whole is added before =
    let same : with_load_if_any found (load_at vs r.unit) ≡ new = cc in
    ap (λ l. listed_first l (loads_at vs rest)) (sym same)
    ∙ sym (listed_if_any found (load_at vs r.unit) (loads_at vs rest))
    ∙ ap (λ rs. listed_first found (loads_at vs rs)) (sym is)
    ∙ before

-- after the last
pub listed_all : (vs : List AnsweredUnit) (old : List UnitRange) (found whole : List PendingLoad) → old ≡ []
    → listed_first found (loads_at vs old) ≡ whole → found ≡ whole
listed_all vs old found whole is before =
    sym (append-nil found) ∙ ap (λ rs. listed_first found (loads_at vs rs)) (sym is) ∙ before
