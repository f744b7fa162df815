-- Calls read lines of the units that they ask alone; where one asks units one after the other, their lines are kept.
use Rattle.std.proofs.Common.{◌≡◌, ◌≢◌, ◌⊎◌, inl, inr, ℕ, ◌+◌, ◌<◌, ◌≤◌, List, [], ◌∷◌, length, get_or, set, map, Option, Some, None, Result, Ok, Err, refl, sym, ap, ◌∙◌, subst, arith}
use Rattle.std.proofs.Math.Nat.{eq-or-lt_of_le}
use Rattle.addr2line_unit.specs.Error.{Error}
use Rattle.addr2line_unit.specs.Error.TheVariants.{Memory}
use Rattle.addr2line_unit.specs.Lines.{LineRow}
use Rattle.addr2line_unit.specs.Contexts.{ContextUnit}
use Rattle.addr2line_unit.specs.UnitRange.{UnitRange}
use Rattle.addr2line_unit.specs.ResolvedUnits.{ResolvedUnit, KeepsLines, value_of_unit, plain_unit}
use Rattle.addr2line_lookups.specs.KeptUnits.{KeepsAt, KeepsMore, KeepsAsked, ReadsAsked, ReadsNoLines, AsksAmong, AsksForLines, row_at_number, check_at}
use Rattle.addr2line_lookups.proofs.KeptLines.{same_plain, keeps_past}
use Rattle.addr2line_lookups.proofs.UnitChanges.{changes_one, held_before, changes_none, changes_nothing, changes_after, changes_first, changes_more, changes_both}

-- ---- one unit

-- one that is put back
pub reads_set : (us : List ResolvedUnit) (k : ℕ) (new : ResolvedUnit) → ReadsAsked (λ n. n ≡ k) us (set us k new)
reads_set us k new = changes_one KeepsLines us k new

-- one whose lines weren't read
pub no_lines_set : (us : List ResolvedUnit) (k : ℕ) (u : ResolvedUnit) → u ≡ get_or us k u → (new : ResolvedUnit)
    → new.keeps_lines ≡ u.keeps_lines → ReadsNoLines us (set us k new)
no_lines_set us k u is new same = held_before KeepsLines us k u new is (λ kept. sym same ∙ kept)

-- ---- one change after the other

pub no_lines_none : (us : List ResolvedUnit) → ReadsNoLines us us
no_lines_none us n kept = kept

pub no_lines_both : (us vs ws : List ResolvedUnit) → ReadsNoLines us vs → ReadsNoLines vs ws → ReadsNoLines us ws
no_lines_both us vs ws first then n kept = first n (then n kept)

pub reads_none : (asks : ℕ → Type 0) (us : List ResolvedUnit) → ReadsAsked asks us us
reads_none = changes_none KeepsLines

-- where no lines were read
pub reads_nothing : (asks : ℕ → Type 0) (us vs : List ResolvedUnit) → ReadsNoLines us vs → ReadsAsked asks us vs
reads_nothing = changes_nothing KeepsLines

-- or weren't before
pub reads_after : (asks : ℕ → Type 0) (us vs ws : List ResolvedUnit) → ReadsNoLines us vs → ReadsAsked asks vs ws
    → ReadsAsked asks us ws
reads_after = changes_after KeepsLines

-- or weren't afterwards
pub reads_first : (asks : ℕ → Type 0) (us vs ws : List ResolvedUnit) → ReadsAsked asks us vs → ReadsNoLines vs ws
    → ReadsAsked asks us ws
reads_first = changes_first KeepsLines

-- where lines of units that are asked are read last
pub reads_more : (asks here : ℕ → Type 0) (us vs ws : List ResolvedUnit) → ((n : ℕ) → here n → asks n)
    → ReadsAsked asks us vs → ReadsAsked here vs ws → ReadsAsked asks us ws
reads_more = changes_more KeepsLines

-- where those of one are
pub reads_both : (asks : ℕ → Type 0) (us vs ws : List ResolvedUnit) (k : ℕ) → asks k → ReadsAsked asks us vs
    → ReadsAsked (λ n. n ≡ k) vs ws → ReadsAsked asks us ws
reads_both = changes_both KeepsLines

-- ---- one unit after the other

-- A call comes to units that it asks. Lines of the others that it asks are kept already, lines that were kept are kept
-- still, and no others were read.
pub record AsksOn (asks comes_to : ℕ → Type 0) (old us : List ResolvedUnit) : Type 0 where
  pub are_asked : (n : ℕ) → comes_to n → asks n
  pub are_kept : (n : ℕ) → asks n → KeepsAt us n ⊎ comes_to n
  pub more : KeepsMore old us
  pub reads : ReadsAsked asks old us

-- before the first
pub asks_all : (asks : ℕ → Type 0) (us : List ResolvedUnit) → AsksOn asks asks us us
asks_all asks us = record {
  are_asked = λ n asked. asked;
  are_kept = λ n asked. inr asked;
  more = λ n kept. kept;
  reads = reads_none asks us;
}

-- after the last
pub asks_none : (asks comes_to : ℕ → Type 0) (old us : List ResolvedUnit) → ((n : ℕ) → comes_to n → KeepsAt us n)
    → AsksOn asks comes_to old us → KeepsAsked asks us
asks_none asks comes_to old us kept h n asked = by (h.are_kept n asked)
  where
    by : KeepsAt us n ⊎ comes_to n → KeepsAt us n
    by (inl is) = is
    by (inr left) = kept n left

module _ (asks comes_to here : ℕ → Type 0) (old us : List ResolvedUnit) (come_here : (n : ℕ) → here n → comes_to n)
    (h : AsksOn asks comes_to old us) where
  -- where all that it asks was kept, so are these
  pub all_kept_already : KeepsAsked asks old → KeepsAsked here us
  all_kept_already kept n is = h.more n (kept n (h.are_asked n (come_here n is)))

  module _ (vs : List ResolvedUnit) (reads : ReadsAsked here us vs) where
    pub reads_all_here : ReadsAsked asks old vs
    reads_all_here = reads_more asks here old us vs (λ n is. h.are_asked n (come_here n is)) h.reads reads

    -- some more
    pub asks_more : (rest : ℕ → Type 0) → ((n : ℕ) → rest n → comes_to n) → ((n : ℕ) → comes_to n → here n ⊎ rest n)
        → KeepsMore us vs → KeepsAsked here vs → AsksOn asks rest old vs
    asks_more rest first then more kept = record {
      are_asked = λ n left. h.are_asked n (first n left);
      are_kept = λ n asked. by n (h.are_kept n asked);
      more = λ n before. more n (h.more n before);
      reads = reads_all_here;
    }
      where
        turn : (n : ℕ) → here n ⊎ rest n → KeepsAt vs n ⊎ rest n
        turn n (inl is) = inl (kept n is)
        turn n (inr left) = inr left

        by : (n : ℕ) → KeepsAt us n ⊎ comes_to n → KeepsAt vs n ⊎ rest n
        by n (inl before) = inl (more n before)
        by n (inr left) = turn n (then n left)

    -- the last ones
    pub asks_last_of : ((n : ℕ) → comes_to n → here n) → KeepsMore us vs → KeepsAsked here vs → KeepsAsked asks vs
    asks_last_of last more kept =
        asks_none asks (λ n. ⊥) old vs (λ n left. absurd left)
        (asks_more (λ n. ⊥) (λ n left. absurd left) (λ n left. inl (last n left)) more kept)

module _ (asks comes_to : ℕ → Type 0) (old us : List ResolvedUnit) (k : ℕ) (here : comes_to k)
    (h : AsksOn asks comes_to old us) where
  abbrev is_one : ℕ → Type 0
  is_one n = n ≡ k

  one_here : (n : ℕ) → is_one n → comes_to n
  one_here n is = subst comes_to (sym is) here

  -- where all that it asks was kept, so is this one
  pub kept_already : KeepsAsked asks old → KeepsAt us k
  kept_already kept = all_kept_already asks comes_to is_one old us one_here h kept k refl

  module _ (vs : List ResolvedUnit) (reads : ReadsAsked (λ n. n ≡ k) us vs) where
    pub reads_here : ReadsAsked asks old vs
    reads_here = reads_all_here asks comes_to is_one old us one_here h vs reads

    one_kept : KeepsAt vs k → KeepsAsked is_one vs
    one_kept kept n is = subst (KeepsAt vs) (sym is) kept

    -- one more
    pub asks_next : (rest : ℕ → Type 0) → ((n : ℕ) → rest n → comes_to n)
        → ((n : ℕ) → comes_to n → (n ≡ k) ⊎ rest n) → KeepsMore us vs → KeepsAt vs k → AsksOn asks rest old vs
    asks_next rest first then more kept =
        asks_more asks comes_to is_one old us one_here h vs reads rest first then more (one_kept kept)

    -- the last
    pub asks_last : ((n : ℕ) → comes_to n → n ≡ k) → KeepsMore us vs → KeepsAt vs k → KeepsAsked asks vs
    asks_last last more kept =
        asks_last_of asks comes_to is_one old us one_here h vs reads last more (one_kept kept)

-- ---- for a row

abbrev answer : Option LineRow → Result (Option LineRow) Error
answer o = Ok o

abbrev refusal : Error → Result (Option LineRow) Error
refusal e = Err e

-- an answer isn't out of memory
pub no_refusal : (o : Option LineRow) → answer o ≢ refusal Memory
no_refusal o same = cc

answer_refused : (r : Result (Option LineRow) Error) (e : Error) → r ≡ refusal e → r ≡ answer None → ⊥
answer_refused r e refused none = let same : refusal e ≡ answer None = sym refused ∙ none in cc

row_missing : (r : Result (Option LineRow) Error) (row : LineRow) → r ≡ answer (Some row) → r ≡ answer None → ⊥
row_missing r row found none = let same : answer (Some row) ≡ answer None = sym found ∙ none in cc

module _ (a : ℕ) (us : List ResolvedUnit) (all : List UnitRange) where
  abbrev comes_to : List UnitRange → ℕ → Type 0
  comes_to rs = AsksAmong (map plain_unit us) a rs

  -- the ranges that are left of some
  abbrev pub AsksRanges : List UnitRange → List ResolvedUnit → Type 0
  AsksRanges rest vs = AsksOn (comes_to all) (comes_to rest) us vs

  pub ranges_begin : (rest : List UnitRange) → rest ≡ all → AsksRanges rest us
  ranges_begin rest is = subst (λ rs. AsksRanges rs us) (sym is) (asks_all (comes_to all) us)

  pub ranges_end : (rest : List UnitRange) (vs : List ResolvedUnit) → rest ≡ [] → AsksRanges rest vs
      → KeepsAsked (comes_to all) vs
  ranges_end rest vs is h =
      asks_none (comes_to all) (comes_to []) us vs (λ n left. absurd left) (subst (λ rs. AsksRanges rs vs) is h)

  module _ (vs : List ResolvedUnit) (r : UnitRange) (before rest : List UnitRange) (is : before ≡ r ∷ rest)
      (h : AsksRanges before vs) where
    here : AsksRanges (r ∷ rest) vs
    here = subst (λ rs. AsksRanges rs vs) is h

    pub range_kept : KeepsAsked (comes_to all) us → KeepsAt vs r.unit
    range_kept kept = kept_already (comes_to all) (comes_to (r ∷ rest)) us vs r.unit (inl refl) here kept

    module _ (ws : List ResolvedUnit) (reads : ReadsAsked (λ n. n ≡ r.unit) vs ws) where
      pub range_reads : ReadsAsked (comes_to all) us ws
      range_reads = reads_here (comes_to all) (comes_to (r ∷ rest)) us vs r.unit (inl refl) here ws reads

      module _ (same : map value_of_unit vs ≡ map value_of_unit us) (more : KeepsMore vs ws) where
        row_same : row_at_number (map plain_unit us) a r.unit ≡ row_at_number (map plain_unit vs) a r.unit
        row_same = ap (λ (l : List ContextUnit). row_at_number l a r.unit) (sym (same_plain vs us same))

        -- one that has no row
        pub range_next : row_at_number (map plain_unit vs) a r.unit ≡ Ok None → KeepsAt ws r.unit → AsksRanges rest ws
        range_next none kept =
            asks_next (comes_to all) (comes_to (r ∷ rest)) us vs r.unit (inl refl) here ws reads (comes_to rest)
            (λ n left. inr (row_same ∙ none, left)) (λ n left. by n left) more kept
          where
            by : (n : ℕ) → comes_to (r ∷ rest) n → (n ≡ r.unit) ⊎ comes_to rest n
            by n (inl first) = inl first
            by n (inr left) = inr left.1

        -- one that has something is the last
        range_last : (row_at_number (map plain_unit vs) a r.unit ≡ Ok None → ⊥) → KeepsAt ws r.unit
            → KeepsAsked (comes_to all) ws
        range_last something kept =
            asks_last (comes_to all) (comes_to (r ∷ rest)) us vs r.unit (inl refl) here ws reads (λ n left. by n left)
            more kept
          where
            by : (n : ℕ) → comes_to (r ∷ rest) n → n ≡ r.unit
            by n (inl first) = first
            by n (inr left) = absurd (something (sym row_same ∙ left.0))

        pub range_found : (row : LineRow) → row_at_number (map plain_unit vs) a r.unit ≡ Ok (Some row)
            → KeepsAt ws r.unit → KeepsAsked (comes_to all) ws
        range_found row found kept =
            range_last (row_missing (row_at_number (map plain_unit vs) a r.unit) row found) kept

        pub range_refused : (e : Error) → refusal e ≢ refusal Memory
            → (e ≢ Memory → row_at_number (map plain_unit vs) a r.unit ≡ Err e)
            → (refusal e ≢ refusal Memory → KeepsAt ws r.unit) → KeepsAsked (comes_to all) ws
        range_refused e other refused kept =
            range_last
            (answer_refused (row_at_number (map plain_unit vs) a r.unit) e (refused (λ is. other (ap refusal is))))
            (kept other)

-- ---- for lines

abbrev done : Unit {0} → Result (Unit {0}) Error
done x = Ok x

abbrev stopped : Error → Result (Unit {0}) Error
stopped e = Err e

-- reading that isn't refused isn't out of memory
pub no_stop : (x : Unit {0}) → done x ≢ stopped Memory
no_stop x same = cc

pub no_stop_of : (r : Result (Unit {0}) Error) → r ≡ done tt → r ≢ stopped Memory
no_stop_of r is same = no_stop tt (sym is ∙ same)

not_done : (r : Result (Unit {0}) Error) (e : Error) → r ≡ stopped e → r ≡ done tt → ⊥
not_done r e refused passed = let same : stopped e ≡ done tt = sym refused ∙ passed in cc

module _ (us : List ResolvedUnit) where
  abbrev asks : ℕ → Type 0
  asks = AsksForLines (map plain_unit us)

  -- those from a number on
  abbrev pub AsksFrom : ℕ → ℕ → Type 0
  AsksFrom k n = asks n × (k ≤ n)

  -- all before it can be read
  pub record AsksUnits (k : ℕ) (vs : List ResolvedUnit) : Type 0 where
    pub comes_here : asks k
    pub walk : AsksOn asks (AsksFrom k) us vs

  pub units_begin : (k : ℕ) → k ≡ 0 → AsksUnits k us
  units_begin k is = record {
    comes_here = λ n below. absurd (omega (arith, is, below));
    walk = record {
      are_asked = λ n left. left.0;
      are_kept = λ n asked. inr (asked, omega (arith, is));
      more = λ n kept. kept;
      reads = reads_none asks us;
    };
  }

  module _ (vs : List ResolvedUnit) (k : ℕ) (h : AsksUnits k vs) where
    pub units_end : length vs ≤ k → KeepsAsked asks vs
    units_end past =
        asks_none asks (AsksFrom k) us vs (λ n left. keeps_past vs n (omega (arith, past, left.1))) h.walk

    pub unit_kept : KeepsAsked asks us → KeepsAt vs k
    unit_kept kept = kept_already asks (AsksFrom k) us vs k (h.comes_here, omega arith) h.walk kept

    module _ (ws : List ResolvedUnit) (reads : ReadsAsked (λ n. n ≡ k) vs ws) where
      pub unit_reads : ReadsAsked asks us ws
      unit_reads = reads_here asks (AsksFrom k) us vs k (h.comes_here, omega arith) h.walk ws reads

      module _ (same : map value_of_unit vs ≡ map value_of_unit us) (more : KeepsMore vs ws) where
        check_same : check_at (map plain_unit us) k ≡ check_at (map plain_unit vs) k
        check_same = ap (λ (l : List ContextUnit). check_at l k) (sym (same_plain vs us same))

        -- one whose lines can be read
        pub unit_next : check_at (map plain_unit vs) k ≡ Ok tt → KeepsAt ws k → AsksUnits (k + 1) ws
        unit_next passed kept = record {
          comes_here = λ n below. let none_after : n ≤ k = omega (arith, below) in by n (eq-or-lt_of_le none_after);
          walk =
              asks_next asks (AsksFrom k) us vs k (h.comes_here, omega arith) h.walk ws reads (AsksFrom (k + 1))
              (λ n left. (left.0, omega (arith, left.1))) (λ n left. turn n left (eq-or-lt_of_le left.1)) more kept;
        }
          where
            by : (n : ℕ) → (n ≡ k) ⊎ (n < k) → check_at (map plain_unit us) n ≡ Ok tt
            by n (inl is) = ap (check_at (map plain_unit us)) is ∙ check_same ∙ passed
            by n (inr below) = h.comes_here n below

            turn : (n : ℕ) → AsksFrom k n → (k ≡ n) ⊎ (k < n) → (n ≡ k) ⊎ AsksFrom (k + 1) n
            turn n left (inl is) = inl (sym is)
            turn n left (inr below) = inr (left.0, omega (arith, below))

        -- one whose lines are refused is the last
        pub unit_refused : (e : Error) → stopped e ≢ stopped Memory
            → (e ≢ Memory → check_at (map plain_unit vs) k ≡ Err e)
            → (stopped e ≢ stopped Memory → KeepsAt ws k) → KeepsAsked asks ws
        unit_refused e other refused kept =
            asks_last asks (AsksFrom k) us vs k (h.comes_here, omega arith) h.walk ws reads
            (λ n left. turn n left (eq-or-lt_of_le left.1)) more (kept other)
          where
            never : (n : ℕ) → AsksFrom k n → k < n → ⊥
            never n left below =
                not_done (check_at (map plain_unit vs) k) e (refused (λ is. other (ap stopped is)))
                (sym check_same ∙ left.0 k below)

            turn : (n : ℕ) → AsksFrom k n → (k ≡ n) ⊎ (k < n) → n ≡ k
            turn n left (inl is) = sym is
            turn n left (inr below) = absurd (never n left below)
