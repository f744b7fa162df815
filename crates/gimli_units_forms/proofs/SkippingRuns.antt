-- Widths add up to runs, and looks part them.
use Rattle.std.proofs.Common.{◌≡◌, ℕ, ◌+◌, ◌^◌, List, [], ◌∷◌, ◌++◌, length, Some, Result, Ok, Err, refl, sym, ap, ◌∙◌, arith}
use Rattle.std.specs.Prelude.{map, sum}
use Rattle.std.proofs.lemmas.Bool.{lt-leb, lt-ltb, le-ltb}
use Rattle.std.proofs.lemmas.List.Sums.{sum_by-cons}
use Rattle.gimli_core_abbrev.specs.Error.{Error}
use Rattle.gimli_core_abbrev.specs.View.{View}
use Rattle.gimli_core_abbrev.specs.Parsers.{proceed}
use Rattle.gimli_core_abbrev.specs.Encoding.{Encoding}
use Rattle.gimli_core_abbrev.specs.Declarations.{Attribute}
use Rattle.gimli_core_abbrev.specs.FormWidths.{attribute_width}
use Rattle.gimli_units_forms.specs.AttributeSkipping.{way_of, look_at_value, run, skip_ways, skip_values}
use Rattle.gimli_units_forms.specs.SkippingLaws.{BeginsWithLook, skip_bytes_and_values, IsOneRun, WidthsAreOneRun, LooksBeginRuns, NothingIsSkipped}
use Rattle.gimli_units_forms.proofs.FinalFormLemmas.{proceed_same}
use Rattle.gimli_units_forms.proofs.RunLemmas.{leaves, run-Ok, run-zero}
use Rattle.gimli_units_forms.proofs.WayWidths.{way_width}
use Rattle.gimli_units_forms.proofs.SkippingLemmas.{skip_ways-by_width, skip_ways-by_look}

abbrev SkipResult : Type 0
SkipResult = Result (Unit {0} × View) Error

-- known widths widen the run
skip-widths : (n : ℕ) (e : Encoding) (fixed rest : List Attribute) (widths : List ℕ) (v : View)
    → map (attribute_width e) fixed ≡ map Some widths
    → skip_bytes_and_values n e (fixed ++ rest) v ≡ skip_bytes_and_values (n + sum widths) e rest v
skip-widths n e [] rest [] v h =
    let same : n ≡ n + 0 = omega arith in ap (λ (k : ℕ). skip_bytes_and_values k e rest v) same
skip-widths n e [] rest (w ∷ ws) v h = absurd cc
skip-widths n e (s ∷ ss) rest [] v h = absurd cc
skip-widths n e (s ∷ ss) rest (w ∷ ws) v h =
    let head : attribute_width e s ≡ Some w = cc in
    let tail : map (attribute_width e) ss ≡ map Some ws = cc in
    let more : sum (w ∷ ws) ≡ w + sum ws = sum_by-cons (λ (x : ℕ). x) w ws in
    let same : n + w + sum ws ≡ n + sum (w ∷ ws) = omega (arith, more) in
    skip_ways-by_width n w (way_of e s.form) (map (λ (t : Attribute). way_of e t.form) (ss ++ rest)) v
    (sym (way_width e s.form ∙ head))
    ∙ skip-widths (n + w) e ss rest ws v tail
    ∙ ap (λ (k : ℕ). skip_bytes_and_values k e rest v) same

after_run : (r : SkipResult) → r ≡ proceed r (λ _ u. leaves u)
after_run (Ok r) = refl
after_run (Err d) = refl

-- a run, and then what follows it
skip-run : (n : ℕ) (e : Encoding) (rest : List Attribute) (v : View) → BeginsWithLook e rest
    → skip_bytes_and_values n e rest v ≡ proceed (run n v) (λ _ u. skip_values e rest u)
unfolding skip_ways skip_values
skip-run n e [] v h = after_run (run n v) ∙ proceed_same (run n v) _ _ (λ _ u _. sym (run-zero u))
skip-run n e (s ∷ ss) v h =
    let ways = map (λ (t : Attribute). way_of e t.form) ss in
    skip_ways-by_look n e s.form ways v (sym (way_width e s.form ∙ h))
    ∙ proceed_same (run n v) _ _ (λ _ u _. sym (by_look u))
  where
    by_look : (u : View) → skip_values e (s ∷ ss) u
        ≡ proceed (look_at_value e s.form u) (λ more. skip_bytes_and_values more e ss)
    by_look u =
        let ways = map (λ (t : Attribute). way_of e t.form) ss in
        skip_ways-by_look 0 e s.form ways u (sym (way_width e s.form ∙ h))
        ∙ ap (λ (r : SkipResult). proceed r (λ _ t. proceed (look_at_value e s.form t) (λ more. skip_ways more ways)))
        (run-zero u)

one_run : (n : ℕ) (e : Encoding) (rest : List Attribute) (v : View) (result : SkipResult)
    → result ≡ proceed (run n v) (λ _ u. skip_values e rest u) → IsOneRun n e rest v result
unfolding run
one_run n e rest v result h = record {
  whole = λ le. h ∙ ap (λ (r : SkipResult). proceed r (λ _ u. skip_values e rest u)) (run-Ok n v le);
  cut = λ lt fits.
      let short = lt-leb n (length v.bytes) lt in
      let narrow = lt-ltb n (2 ^ 64) fits in
      h ∙ rw (short, narrow) refl;
  wide = λ lt wide.
      let short = lt-leb n (length v.bytes) lt in
      let wide_one = le-ltb n (2 ^ 64) wide in
      h ∙ rw (short, wide_one) refl;
}

pub widths-one_run : WidthsAreOneRun
widths-one_run n e fixed rest widths v h k =
    one_run (n + sum widths) e rest v (skip_bytes_and_values n e (fixed ++ rest) v)
    (skip-widths n e fixed rest widths v h ∙ skip-run (n + sum widths) e rest v k)

pub look-begins_run : LooksBeginRuns
unfolding skip_values
look-begins_run e s ss v h =
    let ways = map (λ (t : Attribute). way_of e t.form) ss in
    skip_ways-by_look 0 e s.form ways v (sym (way_width e s.form ∙ h))
    ∙ ap (λ (r : SkipResult). proceed r (λ _ t. proceed (look_at_value e s.form t) (λ more. skip_ways more ways)))
    (run-zero v)

pub nothing-skipped : NothingIsSkipped
unfolding skip_values skip_ways
nothing-skipped e v = run-zero v
