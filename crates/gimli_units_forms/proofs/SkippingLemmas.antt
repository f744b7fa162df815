-- How a list of ways is skipped, one after the other.
use Rattle.std.proofs.Common.{◌≡◌, ℕ, ◌+◌, ◌^◌, ◌<◌, ◌≤◌, Bool, true, false, cond, eqb, ltb, leb, List, [], ◌∷◌, length, Option, Some, None, Result, Ok, Err, refl, sym, ap, subst, ◌∙◌, arith, inl, inr, ◌⊎◌}
use Rattle.std.specs.Option.{SomeIff, ok_or}
use Rattle.std.proofs.lemmas.Bool.{cases_lt, lt-leb, le-ltb}
use Rattle.gimli_core_abbrev.specs.Calls.{ReturnsAs}
use Rattle.gimli_core_abbrev.specs.Error.{Error}
use Rattle.gimli_core_abbrev.specs.Error.TheVariants.{OffsetSumOverflow}
use Rattle.gimli_core_abbrev.specs.View.{View, bytes_left}
use Rattle.gimli_core_abbrev.specs.Parsers.{proceed}
use Rattle.gimli_core_abbrev.specs.Encoding.{Encoding}
use Rattle.gimli_units_forms.specs.FormSpellings.{spelling}
use Rattle.gimli_core_abbrev.specs.Results.{and_then}
use Rattle.gimli_units_forms.specs.AttributeSkipping.{Way, by_width, by_look, look_of, plain_way, look_at_value, way_of, run, skip_ways}
use Rattle.gimli_units_forms.proofs.WayWidths.{width_in}
use Rattle.gimli_units_forms.proofs.FinalFormLemmas.{final_form-other, proceed_same}

-- a run wider than 64 bits is refused
run-too_wide : (n : ℕ) (v : View) → 2 ^ 64 ≤ n → bytes_left v < 2 ^ 64 → run n v ≡ Err OffsetSumOverflow
unfolding run
run-too_wide n v h k =
    let past : leb n (length v.bytes) ≡ false = lt-leb _ _ (omega arith) in
    let wide_one : ltb n (2 ^ 64) ≡ false = le-ltb _ _ h in
    rw (past, wide_one) refl

-- and with it whatever ways follow
pub skip_ways-too_wide : (n : ℕ) (ways : List Way) (v : View) → 2 ^ 64 ≤ n → bytes_left v < 2 ^ 64
    → skip_ways n ways v ≡ Err OffsetSumOverflow
unfolding skip_ways
skip_ways-too_wide n [] v h k = run-too_wide n v h k
skip_ways-too_wide n (by_width w ∷ ways) v h k = skip_ways-too_wide (n + w) ways v (omega arith) k
skip_ways-too_wide n (by_look look ∷ ways) v h k = rw (run-too_wide n v h k) refl

-- a way without a look widens the run
pub skip_ways-by_width : (n w : ℕ) (way : Way) (ways : List Way) (v : View) → Some w ≡ width_in way
    → skip_ways n (way ∷ ways) v ≡ skip_ways (n + w) ways v
unfolding skip_ways
skip_ways-by_width n w (by_width m) ways v e = let same : m ≡ w = cc in ap (λ (k : ℕ). skip_ways (n + k) ways v) same
skip_ways-by_width n w (by_look look) ways v e = absurd cc

-- a look ends the run
skip_ways-look : (n : ℕ) (way : Way) (ways : List Way) (v : View) → None ≡ width_in way
    → skip_ways n (way ∷ ways) v ≡ proceed (run n v) (λ _ u. proceed (look_of way u) (λ more. skip_ways more ways))
unfolding skip_ways
skip_ways-look n (by_width m) ways v e = absurd cc
skip_ways-look n (by_look look) ways v e = refl

-- looking along a form's way is looking at its value, after indirect or not
pub look_of-way_of : (e : Encoding) (form : ℕ) (u : View) → look_of (way_of e form) u ≡ look_at_value e form u
unfolding way_of look_at_value
look_of-way_of e form u = by_test (eqb form 0x16) refl
  where
    by_test : (t : Bool) → eqb form 0x16 ≡ t
        → look_of (cond t (by_look (look_at_value e form)) (plain_way e form (spelling e form))) u
        ≡ look_at_value e form u
    by_test true h = refl
    by_test false h =
        sym
        (ap (λ (r : Result (ℕ × View) Error). proceed r (λ f. look_of (plain_way e f (spelling e f))))
        (final_form-other form u h))

pub skip_ways-by_look : (n : ℕ) (e : Encoding) (form : ℕ) (ways : List Way) (v : View) → None ≡ width_in (way_of e form)
    → skip_ways n (way_of e form ∷ ways) v
    ≡ proceed (run n v) (λ _ u. proceed (look_at_value e form u) (λ more. skip_ways more ways))
skip_ways-by_look n e form ways v h =
    skip_ways-look n (way_of e form) ways v h
    ∙ proceed_same (run n v) _ _
    (λ _ u _. ap (λ (r : Result (ℕ × View) Error). proceed r (λ more. skip_ways more ways)) (look_of-way_of e form u))

-- ---- one value

-- the run is refused
pub skip_ways-run_fault : (n : ℕ) (e : Encoding) (form : ℕ) (ways : List Way) (v : View) (fault : Error)
    → None ≡ width_in (way_of e form) → run n v ≡ Err fault
    → skip_ways n (way_of e form ∷ ways) v ≡ Err fault
skip_ways-run_fault n e form ways v fault h r =
    skip_ways-by_look n e form ways v h
    ∙ ap (λ (x : Result (Unit {0} × View) Error). proceed x
    (λ _ u. proceed (look_at_value e form u) (λ more. skip_ways more ways))) r

-- the look answers
pub skip_ways-look_answers : (n : ℕ) (e : Encoding) (form : ℕ) (ways : List Way) (v u w : View)
    (answer : Result ℕ Error) → None ≡ width_in (way_of e form) → run n v ≡ Ok (tt, u)
    → ReturnsAs (λ more. (more, w)) answer (look_at_value e form u)
    → skip_ways n (way_of e form ∷ ways) v ≡ and_then answer (λ more. skip_ways more ways w)
skip_ways-look_answers n e form ways v u w answer h r look =
    skip_ways-by_look n e form ways v h
    ∙ ap (λ (x : Result (Unit {0} × View) Error). proceed x
    (λ _ s. proceed (look_at_value e form s) (λ more. skip_ways more ways))) r ∙ by_answer answer look
  where
    by_answer : (a : Result ℕ Error) → ReturnsAs (λ more. (more, w)) a (look_at_value e form u)
        → proceed (look_at_value e form u) (λ more. skip_ways more ways) ≡ and_then a (λ more. skip_ways more ways w)
    by_answer (Ok more) k = ap (λ (x : Result (ℕ × View) Error). proceed x (λ m. skip_ways m ways)) k
    by_answer (Err fault) k = ap (λ (x : Result (ℕ × View) Error). proceed x (λ m. skip_ways m ways)) k

-- the width joins the run
pub skip_ways-width : (n w m : ℕ) (way : Way) (ways : List Way) (v : View) (sum : Option ℕ) (answer : Result ℕ Error)
    → bytes_left v < 2 ^ 64 → Some w ≡ width_in way → m ≡ w
    → SomeIff sum (n + m < 2 ^ 64) (n + m) → answer ≡ ok_or sum OffsetSumOverflow
    → skip_ways n (way ∷ ways) v ≡ and_then answer (λ more. skip_ways more ways v)
skip_ways-width n w m way ways v sum answer short h same s a =
    skip_ways-by_width n w way ways v h ∙ by_sum sum s
    ∙ sym (ap (λ (x : Result ℕ Error). and_then x (λ more. skip_ways more ways v)) a)
  where
    by_sum : (o : Option ℕ) → SomeIff o (n + m < 2 ^ 64) (n + m)
        → skip_ways (n + w) ways v ≡ and_then (ok_or o OffsetSumOverflow) (λ more. skip_ways more ways v)
    by_sum (Some k) f = let is : n + w ≡ k = omega (arith, f.1) in ap (λ (x : ℕ). skip_ways x ways v) is
    by_sum None f = skip_ways-too_wide (n + w) ways v (le_of (cases_lt (n + m) (2 ^ 64))) short
      where
        le_of : ((n + m < 2 ^ 64) ⊎ (2 ^ 64 ≤ n + m)) → 2 ^ 64 ≤ n + w
        le_of (inl lt) = absurd (f lt)
        le_of (inr le) = omega arith

-- ---- the last run

-- what answers a definition answers an equal one
pub ReturnsAs-equal : {A B : Type 0} (see : A → B) (answer : Result A Error) (r s : Result B Error) → r ≡ s
    → ReturnsAs see answer r → ReturnsAs see answer s
ReturnsAs-equal see answer r s h a = subst (λ (x : Result _ Error). ReturnsAs see answer x) h a

-- where no way is left, the run ends
pub skip_ways-end : (n : ℕ) (ways : List Way) (v : View) → ways ≡ [] → skip_ways n ways v ≡ run n v
unfolding skip_ways
skip_ways-end n ways v h = rw h refl
