-- Ranges that several units share, put in order, stand for the pairs in order.
use Rattle.std.proofs.Common.{◌≡◌, ℕ, zero, suc, ◌+◌, ◌-◌, ◌<◌, ◌≤◌, Bool, true, false, not, cond, nat_lt, nat_eq, rules, tests, List, [], ◌∷◌, ◌++◌, length, get_or, map, take, filter, refl, sym, ap, ◌∙◌, inl, inr, subst, arith, append_assoc, append-nil}
use Rattle.std.specs.Ordering.{nat_cmp}
use Rattle.std.specs.List.{AllAdjacentBelow, IsAllAdjacentAnswer}
use Rattle.std.specs.List.Sorted.{IsNonDecreasingBy, IsStableByKey}
use Rattle.std.proofs.Math.ListN.{set}
use Rattle.std.proofs.lemmas.List.Elements.{filter-append}
use Rattle.std.specs.Prelude.{◌&&◌}
use Rattle.std.specs.Bool.{Decides}
use Rattle.std.specs.Cmp.Lexicographic.{pointwise}
use Rattle.std.proofs.lemmas.Slice.Eq.{slice_eq-Decides}
use Rattle.std.proofs.lemmas.Bool.{cases_lt, ltb-true, and_parts, eqb-true}
use Rattle.std.proofs.lemmas.List.{take_more}
use Rattle.addr2line_spec.specs.Range.{Range}
use Rattle.addr2line_spec.specs.Orders.{in_order}
use Rattle.addr2line_index.specs.declared.unit_range.UnitRange.{UnitRange}
use Rattle.addr2line_index.specs.declared.shared_range.SharedRange.{SharedRange}
use Rattle.addr2line_index.specs.declared.unit_run.UnitRun.{UnitRun}
use Rattle.addr2line_index.specs.SharedRanges.{in_units, more_units, pairs_in, pairs_in_all, with_unit, with_units, pairs_of_run, pairs_of_runs, shared_of_run, shared_of_runs, EndAbove, EndsRise, IsShareable, AreShareable, GoesOn, LastGoesOn, with_last}
use Rattle.addr2line_index.proofs.StableOrder.{tie, tie-once, NotBelow, Ascends, class, Ascends-from_places, in_order-ascending, by_number}

abbrev pub end_of : UnitRange → ℕ
end_of r = r.range.end

abbrev pub shared_end : SharedRange → ℕ
shared_end s = s.range.end

-- ---- the units of one range

-- a test of the range passes all of them or none
pub filter-units : (p : Range → Bool) (r : Range) (unit more : ℕ)
    → filter (λ (x : UnitRange). p x.range) (in_units r unit more) ≡ cond (p r) (in_units r unit more) []
filter-units p r unit zero = refl
filter-units p r unit (suc more) =
    ap (λ l. cond (p r) (record { range = r; unit = unit } ∷ l) l) (filter-units p r (unit + 1) more)
    ∙ elim (p r) as (λ b. cond b (record { range = r; unit = unit } ∷ cond b (in_units r (unit + 1) more) [])
    (cond b (in_units r (unit + 1) more) []) ≡ cond b (in_units r unit (suc more)) []) [ true ↦ refl | false ↦ refl ]

pairs_in_all-append : (xs ys : List SharedRange) → pairs_in_all (xs ++ ys) ≡ pairs_in_all xs ++ pairs_in_all ys
pairs_in_all-append [] ys = refl
pairs_in_all-append (s ∷ xs) ys =
    ap (λ l. pairs_in s ++ l) (pairs_in_all-append xs ys)
    ∙ sym (append_assoc (pairs_in s) (pairs_in_all xs) (pairs_in_all ys))

-- ---- the pairs of ranges by their ends are by their ends

NotBelow-append : {X : Type 0} (n : X → ℕ) (low : ℕ) (xs ys : List X) → NotBelow n low xs → NotBelow n low ys
    → NotBelow n low (xs ++ ys)
NotBelow-append n low [] ys h k = k
NotBelow-append n low (x ∷ xs) ys h k = (h.0, NotBelow-append n low xs ys h.1 k)

NotBelow-units : (low : ℕ) (r : Range) (unit more : ℕ) → low ≤ r.end → NotBelow end_of low (in_units r unit more)
NotBelow-units low r unit zero h = (h, tt)
NotBelow-units low r unit (suc more) h = (h, NotBelow-units low r (unit + 1) more h)

NotBelow-pairs : (low : ℕ) (ss : List SharedRange) → NotBelow shared_end low ss → NotBelow end_of low (pairs_in_all ss)
NotBelow-pairs low [] h = tt
NotBelow-pairs low (s ∷ ss) h =
    NotBelow-append end_of low (pairs_in s) (pairs_in_all ss) (NotBelow-units low s.range s.first (more_units s) h.0)
    (NotBelow-pairs low ss h.1)

Ascends-units : (r : Range) (unit more : ℕ) (rest : List UnitRange) → NotBelow end_of r.end rest → Ascends end_of rest
    → Ascends end_of (in_units r unit more ++ rest)
Ascends-units r unit zero rest h up = (h, up)
Ascends-units r unit (suc more) rest h up = (
  NotBelow-append end_of r.end (in_units r (unit + 1) more) rest
      (NotBelow-units r.end r (unit + 1) more (omega arith)) h,
  Ascends-units r (unit + 1) more rest h up,
)

Ascends-pairs : (ss : List SharedRange) → Ascends shared_end ss → Ascends end_of (pairs_in_all ss)
Ascends-pairs [] up = tt
Ascends-pairs (s ∷ ss) up =
    Ascends-units s.range s.first (more_units s) (pairs_in_all ss) (NotBelow-pairs s.range.end ss up.0)
    (Ascends-pairs ss up.1)

-- ---- the pairs of one end

class-pairs : (a : ℕ) (ss : List SharedRange)
    → class end_of a (pairs_in_all ss) ≡ pairs_in_all (class shared_end a ss)
class-pairs a [] = refl
class-pairs a (s ∷ ss) =
    let rest = pairs_in_all (class shared_end a ss) in
    filter-append (λ x. tie a (end_of x)) (pairs_in s) (pairs_in_all ss)
    ∙ ap (λ l. l ++ class end_of a (pairs_in_all ss)) (filter-units (λ r. tie a r.end) s.range s.first (more_units s))
    ∙ ap (λ l. cond (tie a s.range.end) (pairs_in s) [] ++ l) (class-pairs a ss)
    ∙ elim (tie a s.range.end) as (λ b. cond b (pairs_in s) [] ++ pairs_in_all (class shared_end a ss)
    ≡ pairs_in_all (cond b (s ∷ class shared_end a ss) (class shared_end a ss))) [ true ↦ refl | false ↦ refl ]

-- a range of units from a number to another
abbrev shared : ℕ → ℕ → Range → SharedRange
shared first last r = record { range = r; first = first; last = last }

abbrev shared_all : ℕ → ℕ → List Range → List SharedRange
shared_all first last rs = map (shared first last) rs

class-single : (a first last : ℕ) (rs : List Range) → last - first ≡ 0
    → pairs_in_all (class shared_end a (shared_all first last rs)) ≡ class end_of a (with_unit first rs)
class-single a first last [] one = refl
class-single a first last (r ∷ rs) one =
    let rest = class shared_end a (shared_all first last rs) in
    let units : in_units r first (last - first) ≡ record { range = r; unit = first } ∷ [] = ap (in_units r first) one in
    elim (tie a r.end) as (λ b. pairs_in_all (cond b (shared first last r ∷ rest) rest)
    ≡ cond b (record { range = r; unit = first } ∷ class end_of a (with_unit first rs))
    (class end_of a (with_unit first rs))) [
      | true ↦ ap (λ l. l ++ pairs_in_all rest) units
          ∙ ap (λ l. record { range = r; unit = first } ∷ l) (class-single a first last rs one)
      | false ↦ class-single a first last rs one
    ]

-- no range above one of an end is of that end
above_ties_not : (a low end : ℕ) → low < end → tie a low ≡ true → tie a end ≡ false
above_ties_not a low end h is =
    elim (tie a end) as (λ b. tie a end ≡ b → b ≡ false) [
      | true ↦ λ ties. absurd (tie-once a end low h ties is)
      | false ↦ λ _. refl
    ] refl

class-unit_above : (a low unit : ℕ) (rs : List Range) → EndAbove low rs → tie a low ≡ true
    → class end_of a (with_unit unit rs) ≡ []
class-unit_above a low unit [] h is = refl
class-unit_above a low unit (r ∷ rs) h is =
    ap (λ b. cond b (record { range = r; unit = unit } ∷ class end_of a (with_unit unit rs))
    (class end_of a (with_unit unit rs))) (above_ties_not a low r.end h.0 is)
    ∙ class-unit_above a low unit rs h.1 is

class-shared_above : (a low first last : ℕ) (rs : List Range) → EndAbove low rs → tie a low ≡ true
    → class shared_end a (shared_all first last rs) ≡ []
class-shared_above a low first last [] h is = refl
class-shared_above a low first last (r ∷ rs) h is =
    ap (λ b. cond b (shared first last r ∷ class shared_end a (shared_all first last rs))
    (class shared_end a (shared_all first last rs))) (above_ties_not a low r.end h.0 is)
    ∙ class-shared_above a low first last rs h.1 is

class-none : (a unit more : ℕ) → class end_of a (with_units unit more []) ≡ []
class-none a unit zero = refl
class-none a unit (suc more) = class-none a (unit + 1) more

class-first : (a unit : ℕ) (r : Range) (rs : List Range) → EndAbove r.end rs → tie a r.end ≡ true
    → class end_of a (with_unit unit (r ∷ rs)) ≡ record { range = r; unit = unit } ∷ []
class-first a unit r rs h is =
    ap (λ b. cond b (record { range = r; unit = unit } ∷ class end_of a (with_unit unit rs))
    (class end_of a (with_unit unit rs))) is
    ∙ ap (λ l. record { range = r; unit = unit } ∷ l) (class-unit_above a r.end unit rs h is)

class-only : (a unit more : ℕ) (r : Range) (rs : List Range) → EndAbove r.end rs → tie a r.end ≡ true
    → class end_of a (with_units unit more (r ∷ rs)) ≡ in_units r unit more
class-only a unit zero r rs h is = class-first a unit r rs h is
class-only a unit (suc more) r rs h is =
    filter-append (λ x. tie a (end_of x)) (with_unit unit (r ∷ rs)) (with_units (unit + 1) more (r ∷ rs))
    ∙ ap (λ l. l ++ class end_of a (with_units (unit + 1) more (r ∷ rs))) (class-first a unit r rs h is)
    ∙ ap (λ l. record { range = r; unit = unit } ∷ l) (class-only a (unit + 1) more r rs h is)

class-not_first : (a unit : ℕ) (r : Range) (rs : List Range) → tie a r.end ≡ false
    → class end_of a (with_unit unit (r ∷ rs)) ≡ class end_of a (with_unit unit rs)
class-not_first a unit r rs is =
    ap (λ b. cond b (record { range = r; unit = unit } ∷ class end_of a (with_unit unit rs))
    (class end_of a (with_unit unit rs))) is

class-others : (a unit more : ℕ) (r : Range) (rs : List Range) → tie a r.end ≡ false
    → class end_of a (with_units unit more (r ∷ rs)) ≡ class end_of a (with_units unit more rs)
class-others a unit zero r rs is = class-not_first a unit r rs is
class-others a unit (suc more) r rs is =
    filter-append (λ x. tie a (end_of x)) (with_unit unit (r ∷ rs)) (with_units (unit + 1) more (r ∷ rs))
    ∙ ap (λ l. l ++ class end_of a (with_units (unit + 1) more (r ∷ rs))) (class-not_first a unit r rs is)
    ∙ ap (λ l. class end_of a (with_unit unit rs) ++ l) (class-others a (unit + 1) more r rs is)
    ∙ sym (filter-append (λ x. tie a (end_of x)) (with_unit unit rs) (with_units (unit + 1) more rs))

class-rising : (a first last : ℕ) (rs : List Range) → EndsRise rs
    → pairs_in_all (class shared_end a (shared_all first last rs))
    ≡ class end_of a (with_units first (last - first) rs)
class-rising a first last [] up = sym (class-none a first (last - first))
class-rising a first last (r ∷ rs) up =
    let rest = class shared_end a (shared_all first last rs) in
    elim (tie a r.end) as (λ b. tie a r.end ≡ b → pairs_in_all (cond b (shared first last r ∷ rest) rest)
    ≡ class end_of a (with_units first (last - first) (r ∷ rs))) [
      | true ↦ λ is.
          ap (λ l. pairs_in_all (shared first last r ∷ l)) (class-shared_above a r.end first last rs up.0 is)
          ∙ append-nil (in_units r first (last - first))
          ∙ sym (class-only a first (last - first) r rs up.0 is)
      | false ↦ λ is. class-rising a first last rs up.1 ∙ sym (class-others a first (last - first) r rs is)
    ] refl

class-single_unit : (a unit more : ℕ) (rs : List Range) → more ≡ 0
    → class end_of a (with_unit unit rs) ≡ class end_of a (with_units unit more rs)
class-single_unit a unit more rs one = ap (λ n. class end_of a (with_units unit n rs)) (sym one)

class-run : (a : ℕ) (u : UnitRun) → IsShareable u
    → pairs_in_all (class shared_end a (shared_of_run u)) ≡ class end_of a (pairs_of_run u)
class-run a u h =
    elim (cases_lt u.first u.last) [
      | inl several ↦ class-rising a u.first u.last u.ranges.now (h.1 several)
      | inr single ↦
          let one : u.last - u.first ≡ 0 = omega arith in
          class-single a u.first u.last u.ranges.now one
          ∙ class-single_unit a u.first (u.last - u.first) u.ranges.now one
    ]

class-runs : (a : ℕ) (us : List UnitRun) → AreShareable us
    → pairs_in_all (class shared_end a (shared_of_runs us)) ≡ class end_of a (pairs_of_runs us)
class-runs a [] h = refl
class-runs a (u ∷ us) h =
    ap pairs_in_all (filter-append (λ s. tie a (shared_end s)) (shared_of_run u) (shared_of_runs us))
    ∙ pairs_in_all-append (class shared_end a (shared_of_run u)) (class shared_end a (shared_of_runs us))
    ∙ ap (λ l. l ++ pairs_in_all (class shared_end a (shared_of_runs us))) (class-run a u h.0)
    ∙ ap (λ l. class end_of a (pairs_of_run u) ++ l) (class-runs a us h.1)
    ∙ sym (filter-append (λ x. tie a (end_of x)) (pairs_of_run u) (pairs_of_runs us))

-- a range that ends at a number
abbrev ends_at : ℕ → SharedRange
ends_at a = record { range = record { begin = 0; end = a }; first = 0; last = 0 }

-- ranges of runs that are sorted stand for the pairs in order
pub sorted_pairs : (us : List UnitRun) (sorted : List SharedRange) → AreShareable us
    → IsNonDecreasingBy shared_end sorted → IsStableByKey shared_end nat_cmp (shared_of_runs us) sorted
    → pairs_in_all sorted ≡ in_order (by_number end_of) (pairs_of_runs us)
sorted_pairs us sorted h up stable =
    in_order-ascending end_of (pairs_of_runs us) (pairs_in_all sorted)
    (Ascends-pairs sorted (Ascends-from_places shared_end sorted up))
    (λ a. class-pairs a sorted ∙ ap pairs_in_all (stable (ends_at a)) ∙ class-runs a us h)

-- ---- one unit more

pairs_of_runs-append : (us vs : List UnitRun) → pairs_of_runs (us ++ vs) ≡ pairs_of_runs us ++ pairs_of_runs vs
pairs_of_runs-append [] vs = refl
pairs_of_runs-append (u ∷ us) vs =
    ap (λ l. pairs_of_run u ++ l) (pairs_of_runs-append us vs)
    ∙ sym (append_assoc (pairs_of_run u) (pairs_of_runs us) (pairs_of_runs vs))

pub AreShareable-append : (us vs : List UnitRun) → AreShareable us → AreShareable vs → AreShareable (us ++ vs)
AreShareable-append [] vs h k = k
AreShareable-append (u ∷ us) vs h k = (h.0, AreShareable-append us vs h.1 k)

-- a run of one unit may have any ranges
pub IsShareable-single : (u : UnitRun) → u.first ≡ u.last → IsShareable u
IsShareable-single u one = (omega arith, λ several. absurd (omega arith))

pub new_run : (us : List UnitRun) (u : UnitRun) → u.first ≡ u.last
    → pairs_of_runs (us ++ u ∷ []) ≡ pairs_of_runs us ++ with_unit u.first u.ranges.now
new_run us u one =
    let none : u.last - u.first ≡ 0 = omega arith in
    pairs_of_runs-append us (u ∷ [])
    ∙ ap (λ l. pairs_of_runs us ++ l) (append-nil (pairs_of_run u))
    ∙ ap (λ n. pairs_of_runs us ++ with_units u.first n u.ranges.now) none

with_units-more : (unit more : ℕ) (rs : List Range)
    → with_units unit (suc more) rs ≡ with_units unit more rs ++ with_unit (unit + suc more) rs
with_units-more unit zero rs = refl
with_units-more unit (suc more) rs =
    let same : unit + 1 + suc more ≡ unit + suc (suc more) = omega arith in
    ap (λ l. with_unit unit rs ++ l) (with_units-more (unit + 1) more rs)
    ∙ sym (append_assoc (with_unit unit rs) (with_units (unit + 1) more rs) (with_unit (unit + 1 + suc more) rs))
    ∙ ap (λ n. with_units unit (suc more) rs ++ with_unit n rs) same

longer_run : (u : UnitRun) (unit : ℕ) (rs : List Range) → IsShareable u → GoesOn u unit rs
    → pairs_of_run (record u { last = unit }) ≡ pairs_of_run u ++ with_unit unit rs
longer_run u unit rs h goes =
    let more : unit - u.first ≡ suc (u.last - u.first) = omega arith in
    let next : u.first + suc (u.last - u.first) ≡ unit = omega arith in
    ap (λ n. with_units u.first n u.ranges.now) more
    ∙ with_units-more u.first (u.last - u.first) u.ranges.now
    ∙ ap (λ n. pairs_of_run u ++ with_unit n u.ranges.now) next
    ∙ ap (λ l. pairs_of_run u ++ with_unit unit l) goes.1

pub longer : (us : List UnitRun) (unit : ℕ) (rs : List Range) → AreShareable us → LastGoesOn us unit rs
    → pairs_of_runs (with_last unit us) ≡ pairs_of_runs us ++ with_unit unit rs
longer [] unit rs h goes = absurd goes
longer (u ∷ []) unit rs h goes =
    append-nil (pairs_of_run (record u { last = unit })) ∙ longer_run u unit rs h.0 goes
    ∙ ap (λ l. l ++ with_unit unit rs) (sym (append-nil (pairs_of_run u)))
longer (u ∷ v ∷ us) unit rs h goes =
    ap (λ l. pairs_of_run u ++ l) (longer (v ∷ us) unit rs h.1 goes)
    ∙ sym (append_assoc (pairs_of_run u) (pairs_of_runs (v ∷ us)) (with_unit unit rs))

pub longer_shareable : (us : List UnitRun) (unit : ℕ) (rs : List Range) → AreShareable us → LastGoesOn us unit rs
    → AreShareable (with_last unit us)
longer_shareable [] unit rs h goes = tt
longer_shareable (u ∷ []) unit rs h goes = ((omega arith, λ _. subst EndsRise (sym goes.1) goes.2), tt)
longer_shareable (u ∷ v ∷ us) unit rs h goes = (h.0, longer_shareable (v ∷ us) unit rs h.1 goes)

pub length-last : (us : List UnitRun) (unit : ℕ) → length (with_last unit us) ≡ length us
length-last [] unit = refl
length-last (u ∷ []) unit = refl
length-last (u ∷ v ∷ us) unit = ap suc (length-last (v ∷ us) unit)

pub last_goes_on : (us : List UnitRun) (u : UnitRun) (unit : ℕ) (rs : List Range) → GoesOn u unit rs
    → LastGoesOn (us ++ u ∷ []) unit rs
last_goes_on [] u unit rs goes = goes
last_goes_on (v ∷ []) u unit rs goes = goes
last_goes_on (v ∷ w ∷ us) u unit rs goes = last_goes_on (w ∷ us) u unit rs goes

pub last_shareable : (us : List UnitRun) (u : UnitRun) → AreShareable (us ++ u ∷ []) → IsShareable u
last_shareable [] u h = h.0
last_shareable (v ∷ us) u h = last_shareable us u h.1

pub set_last : (us : List UnitRun) (unit : ℕ) (d : UnitRun) → 0 < length us
    → set us (length us - 1) (record (get_or us (length us - 1) d) { last = unit }) ≡ with_last unit us
set_last [] unit d some = absurd (omega arith)
set_last (u ∷ []) unit d some = refl
set_last (u ∷ v ∷ us) unit d some =
    let all = u ∷ v ∷ us in
    let more : length all - 1 ≡ suc (length (v ∷ us) - 1) = omega arith in
    ap (λ n. set all n (record (get_or all n d) { last = unit })) more
    ∙ ap (λ l. u ∷ l) (set_last (v ∷ us) unit d (omega arith))

-- ---- ranges of runs, collected

shared_of_runs-append : (us vs : List UnitRun) → shared_of_runs (us ++ vs) ≡ shared_of_runs us ++ shared_of_runs vs
shared_of_runs-append [] vs = refl
shared_of_runs-append (u ∷ us) vs =
    ap (λ l. shared_of_run u ++ l) (shared_of_runs-append us vs)
    ∙ sym (append_assoc (shared_of_run u) (shared_of_runs us) (shared_of_runs vs))

pub shared_of_runs-more : (us : List UnitRun) (i : ℕ) (d : UnitRun) → i < length us
    → shared_of_runs (take (i + 1) us) ≡ shared_of_runs (take i us) ++ shared_of_run (get_or us i d)
shared_of_runs-more us i d h =
    ap shared_of_runs (take_more us i d h)
    ∙ shared_of_runs-append (take i us) (get_or us i d ∷ [])
    ∙ ap (λ l. shared_of_runs (take i us) ++ l) (append-nil (shared_of_run (get_or us i d)))

-- ---- ends that rise

-- neighbours of a list, without its first
adjacent_rest : (r : Range) (rs : List Range)
    → AllAdjacentBelow (λ x y. true ≡ nat_lt x.end y.end) (r ∷ rs) (length (r ∷ rs))
    → AllAdjacentBelow (λ x y. true ≡ nat_lt x.end y.end) rs (length rs)
adjacent_rest r rs next k d below =
    let more : suc k + 1 ≡ suc (k + 1) = omega arith in
    next (suc k) d (omega arith) ∙ ap (λ n. nat_lt (get_or rs k d).end (get_or (r ∷ rs) n d).end) more

ends_above : (low : ℕ) (rs : List Range) → ((d : Range) → 0 < length rs → low < (get_or rs 0 d).end)
    → AllAdjacentBelow (λ x y. true ≡ nat_lt x.end y.end) rs (length rs) → EndAbove low rs
ends_above low [] first next = tt
ends_above low (r ∷ rs) first next =
    let here = first r (omega arith) in (
      here,
      ends_above low rs (λ d some. omega (arith, ltb-true r.end (get_or rs 0 d).end (sym (next 0 d (omega arith)))))
          (adjacent_rest r rs next),
    )

ends_rise-adjacent : (rs : List Range) → AllAdjacentBelow (λ x y. true ≡ nat_lt x.end y.end) rs (length rs)
    → EndsRise rs
ends_rise-adjacent [] next = tt
ends_rise-adjacent (r ∷ rs) next =
    let later = adjacent_rest r rs next in (
      ends_above r.end rs (λ d some. ltb-true r.end (get_or rs 0 d).end (sym (next 0 d (omega arith)))) later,
      ends_rise-adjacent rs later,
    )

-- what a test of all neighbours says
pub ends_rise-tested : (rs : List Range) (r : Bool)
    → IsAllAdjacentAnswer (λ (x : Range) (y : Range) b. b ≡ nat_lt x.end y.end) rs r → r ≡ true → EndsRise rs
ends_rise-tested rs true answer is = ends_rise-adjacent rs answer
ends_rise-tested rs false answer is = cc

-- ---- equal lists of ranges

not_not : (b : Bool) → false ≡ not b → b ≡ true
not_not true is = refl
not_not false is = cc

range_is : (begin first end last : ℕ) → begin ≡ first → end ≡ last
    → record { begin = begin; end = end } ≡ (let r : Range = record { begin = first; end = last } in r)
range_is begin first end last begins ends = cc

range_eq : (a b : Range) → Decides (nat_eq a.begin b.begin && nat_eq a.end b.end) (a ≡ b)
range_eq a b = (
  λ same. let parts = and_parts (nat_eq a.begin b.begin) (nat_eq a.end b.end) same in
      range_is a.begin b.begin a.end b.end (eqb-true a.begin b.begin parts.0) (eqb-true a.end b.end parts.1),
  λ same. subst (λ (r : Range). nat_eq a.begin r.begin && nat_eq a.end r.end ≡ true) same (search (rules, tests)),
)

-- what a test that lists differ says where it is false
pub equal_ranges : (xs ys : List Range)
    → false ≡ not (pointwise (λ (a : Range) (b : Range). nat_eq a.begin b.begin && nat_eq a.end b.end) xs ys) → xs ≡ ys
equal_ranges xs ys is =
    let tested = pointwise (λ (a : Range) (b : Range). nat_eq a.begin b.begin && nat_eq a.end b.end) xs ys in
    (slice_eq-Decides range_eq xs ys tested refl).0 (not_not tested is)
