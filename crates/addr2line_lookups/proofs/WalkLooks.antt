-- Walks over the lines of units, one change of the units after the other, and the looks that are left to them.
use Rattle.std.proofs.Common.{◌≡◌, ℕ, zero, suc, ◌+◌, ◌<◌, ◌≤◌, List, [], ◌∷◌, length, drop, map, set, get_or, slice_get, Option, Some, None, option_map, Result, Ok, Err, refl, sym, ap, ap₂, ◌∙◌, subst, arith}
use Rattle.std.specs.Prelude.{sum_by}
use Rattle.std.proofs.Math.Seq.{map-set_same}
use Rattle.std.proofs.lemmas.List.Sums.{sum_by-set, sum_by-cons}
use Rattle.std.proofs.lemmas.Option.{slice_get-map, slice_get_past}
use Rattle.addr2line_unit.specs.Error.{Error}
use Rattle.addr2line_unit.specs.Contexts.{ContextUnit}
use Rattle.addr2line_unit.specs.Lines.{Lines, Sequence}
use Rattle.addr2line_unit.specs.LineCursor.{LineCursor}
use Rattle.addr2line_unit.specs.LineCursors.{sequences_by_start, walk_probes, probes_from}
use Rattle.addr2line_unit.specs.LineWalks.{cursor_probes, StepsOn}
use Rattle.addr2line_unit.specs.NumberedRanges.{overlapping_ranges}
use Rattle.addr2line_unit.specs.ProbedLists.{ProbeCount}
use Rattle.addr2line_unit.specs.RangePlace.{RangePlace}
use Rattle.addr2line_unit.specs.ResolvedUnits.{ResolvedUnit, KeepsLines, value_of_unit, plain_unit, with_probes}
use Rattle.addr2line_unit.specs.RowStretch.{RowStretch}
use Rattle.addr2line_unit.specs.Searches.{digit_count, AtMostProbes}
use Rattle.addr2line_unit.specs.UnitRange.{UnitRange}
use Rattle.addr2line_unit.proofs.KeptWalks.{step_name}
use Rattle.addr2line_lookups.specs.LookupCosts.{counters_of, count_of, AtMostLooks, TakesLooks, ReadsLines, WalksLines}
use Rattle.addr2line_lookups.specs.RangeWalks.{NextOfRows, probes_left, all_probes, unit_probes_left, unit_probes, rows_looks, range_looks, begun_looks, looks_from, walk_looks, found_looks, step_looks}
use Rattle.addr2line_lookups.specs.declared.range_walk.RangeRows.{RangeRows}
use Rattle.addr2line_lookups.specs.declared.range_walk.RangeWalk.{RangeWalk}
use Rattle.addr2line_lookups.specs.declared.range_walk.UnitStretch.{UnitStretch}
use Rattle.addr2line_lookups.proofs.CallsLeft.{leaves_none, leaves_both, leaves_value}
use Rattle.addr2line_lookups.proofs.CallsOfUnits.{leaves_calls, unit_here}
use Rattle.addr2line_lookups.proofs.KeptFunctionLists.{functions_same, functions_none, functions_both, functions_put, holds_put, no_functions_none, no_functions_both, no_functions_set}
use Rattle.addr2line_lookups.proofs.KeptLines.{same_plain}
use Rattle.addr2line_lookups.proofs.UnitRows.{same_values}

-- ---- lines

-- fewer sequences take fewer looks
walk_probes-drop : (ss : List Sequence) (n : ℕ) → walk_probes (drop n ss) ≤ walk_probes ss
walk_probes-drop ss zero = omega arith
walk_probes-drop [] (suc n) = omega arith
walk_probes-drop (s ∷ ss) (suc n) =
    let all = sum_by-cons (λ (t : Sequence). digit_count (length t.rows) + 5) s ss in
    let fewer = walk_probes-drop ss n in
    omega (arith, all, fewer)

probes_from-le : (l : Lines) (n : ℕ) → probes_from l n ≤ probes_from l 0
probes_from-le l n = walk_probes-drop (sequences_by_start l) n

abbrev left_at : Option LineCursor → Result Lines Error → ℕ
left_at None x = 0
left_at (Some c) x = probes_left c x

abbrev cursor_after : Option (RowStretch × LineCursor) → Option LineCursor
cursor_after f = option_map (λ (p : RowStretch × LineCursor). p.1) f

module _ (old new : ProbeCount) where
  -- a cursor leaves those from it on
  cursor_takes : (x : Result Lines Error) (c : Option LineCursor) → AtMostProbes (cursor_probes x) old new
      → new.count + left_at c x ≤ old.count + all_probes x
  cursor_takes (Ok l) None most = omega (arith, most.1)
  cursor_takes (Ok l) (Some c) most = let fewer = probes_from-le l c.next in omega (arith, most.1, fewer)
  cursor_takes (Err e) None most = omega (arith, most.1)
  cursor_takes (Err e) (Some c) most = omega (arith, most.1)

  step_takes : (c : LineCursor) (x : Result Lines Error) (f : Option (RowStretch × LineCursor)) → StepsOn c x f old new
      → new.count + left_at (cursor_after f) x ≤ old.count + (probes_left c x + found_looks f)
  step_takes c (Ok l) None steps = omega (arith, steps.1)
  step_takes c (Ok l) (Some f) steps = omega (arith, steps.1)
  step_takes c (Err e) None steps = omega (arith, steps.1)
  step_takes c (Err e) (Some f) steps = omega (arith, steps.1)

-- ---- units, one change after the other

-- where nothing was looked at
takes_after : (before after : ℕ) (us vs : List ResolvedUnit) → after ≤ before → AtMostLooks 0 us vs
    → TakesLooks before after us vs
takes_after before after us vs fewer h = record {
  counters = h.counters;
  probes = omega (arith, fewer, h.probes);
  more = h.more;
  functions = h.functions;
}

takes_both : (a b c : ℕ) (us vs ws : List ResolvedUnit) → TakesLooks a b us vs → TakesLooks b c vs ws
    → TakesLooks a c us ws
takes_both a b c us vs ws first then = record {
  counters = then.counters ∙ first.counters;
  probes = omega (arith, first.probes, then.probes);
  more = λ number kept. then.more number (first.more number kept);
  functions = functions_both us vs ws first.functions then.functions;
}

-- as many more are left before and after
takes_beside : (k a b c d : ℕ) (us vs : List ResolvedUnit) → c ≡ k + a → d ≡ k + b → TakesLooks a b us vs
    → TakesLooks c d us vs
takes_beside k a b c d us vs before after h = record {
  counters = h.counters;
  probes = omega (arith, before, after, h.probes);
  more = h.more;
  functions = h.functions;
}

-- nothing is read
pub walks_none : (before after : ℕ) (us : List ResolvedUnit) → after ≤ before → WalksLines before after us us
walks_none before after us fewer = record {
  values = refl;
  calls = leaves_none us;
  cost =
      record {
        counters = refl;
        probes = omega (arith, fewer);
        more = λ number kept. kept;
        functions = functions_none us;
      };
  functions = no_functions_none us;
}

-- lines are read
pub walks_reading : (before after : ℕ) (us vs : List ResolvedUnit) → after ≤ before → ReadsLines us vs
    → WalksLines before after us vs
walks_reading before after us vs fewer h = record {
  values = h.values;
  calls = h.calls;
  cost = takes_after before after us vs fewer h.cost;
  functions = h.functions;
}

pub walks_both : (a b c : ℕ) (us vs ws : List ResolvedUnit) → WalksLines a b us vs → WalksLines b c vs ws
    → WalksLines a c us ws
walks_both a b c us vs ws first then = record {
  values = then.values ∙ first.values;
  calls = leaves_both us vs ws first.calls then.calls;
  cost = takes_both a b c us vs ws first.cost then.cost;
  functions = no_functions_both us vs ws first.functions then.functions;
}

-- lines were read before
pub walks_after : (a b : ℕ) (us vs ws : List ResolvedUnit) → ReadsLines us vs → WalksLines a b vs ws
    → WalksLines a b us ws
walks_after a b us vs ws first then = walks_both a a b us vs ws (walks_reading a a us vs (omega arith) first) then

pub walks_beside : (k a b c d : ℕ) (us vs : List ResolvedUnit) → c ≡ k + a → d ≡ k + b → WalksLines a b us vs
    → WalksLines c d us vs
walks_beside k a b c d us vs before after h = record {
  values = h.values;
  calls = h.calls;
  cost = takes_beside k a b c d us vs before after h.cost;
  functions = h.functions;
}

-- more may be left before
pub walks_from : (a b c : ℕ) (us vs : List ResolvedUnit) → a ≤ c → WalksLines a b us vs → WalksLines c b us vs
walks_from a b c us vs more h = walks_both c a b us us vs (walks_none c a us more) h

-- ---- the unit of a number

module _ (us : List ResolvedUnit) (n : ℕ) where
  -- there is none
  pub no_unit : length us ≤ n → slice_get (map plain_unit us) n ≡ None
  no_unit past = slice_get-map plain_unit us n ∙ ap (option_map plain_unit) (slice_get_past us n past)

  module _ (u : ResolvedUnit) (below : n < length us) (is : u ≡ get_or us n u) where
    pub plain_here : slice_get (map plain_unit us) n ≡ Some u.value.unit
    plain_here = slice_get-map plain_unit us n ∙ ap (option_map plain_unit) (unit_here us n u below is)

    module _ (new : ResolvedUnit) (looked : new ≡ with_probes u new.probes) where
      -- it is put back
      walks_set : (before after : ℕ) → new.probes.name ≡ u.probes.name
          → new.probes.count + after ≤ u.probes.count + before → WalksLines before after us (set us n new)
      walks_set before after name count =
          let here : count_of (get_or us n u) ≡ count_of u = ap count_of (sym is) in
          let total = sum_by-set count_of us n new u below in
          let calls = ap (λ (x : ResolvedUnit). x.calls) looked in
          let functions = ap (λ (x : ResolvedUnit). x.keeps_functions) looked in
          let lines = ap (λ (x : ResolvedUnit). x.keeps_lines) looked in
          let runs = ap (λ (x : ResolvedUnit). x.runs) looked in
          let looks : count_of new + after ≤ count_of u + before = count in
          record {
            values = same_values us n u new is (ap value_of_unit looked);
            calls = leaves_calls us n u below is new (leaves_value u new (ap value_of_unit looked) calls);
            cost =
                record {
                  counters =
                      map-set_same counters_of us n new u (ap₂ (λ (p r : ℕ). (p, r)) name runs ∙ ap counters_of is);
                  probes = omega (arith, total, here, looks);
                  more = holds_put KeepsLines us n u new is (λ kept. lines ∙ kept);
                  functions = functions_put us n u new is (functions_same u new functions calls);
                };
            functions = no_functions_set us n u is new functions;
          }

      -- a walk begins in it
      pub cursor_set : (c : Option LineCursor) → AtMostProbes (cursor_probes u.value.unit.lines) u.probes new.probes
          → WalksLines (unit_probes (slice_get (map plain_unit us) n))
          (unit_probes_left c (slice_get (map plain_unit us) n)) us (set us n new)
      cursor_set c most =
          subst (λ (o : Option ContextUnit). WalksLines (unit_probes o) (unit_probes_left c o) us (set us n new))
          (sym plain_here)
          (walks_set (all_probes u.value.unit.lines) (unit_probes_left c (Some u.value.unit)) most.0 (by c))
        where
          by : (d : Option LineCursor)
              → new.probes.count + unit_probes_left d (Some u.value.unit)
              ≤ u.probes.count + all_probes u.value.unit.lines
          by None = cursor_takes u.probes new.probes u.value.unit.lines None most
          by (Some d) = cursor_takes u.probes new.probes u.value.unit.lines (Some d) most

      -- or goes on in it
      pub step_set : (c : LineCursor) (f : Option (RowStretch × LineCursor))
          → StepsOn c u.value.unit.lines f u.probes new.probes
          → WalksLines (unit_probes_left (Some c) (slice_get (map plain_unit us) n) + found_looks f)
          (unit_probes_left (cursor_after f) (slice_get (map plain_unit us) n)) us (set us n new)
      step_set c f steps =
          subst (λ (o : Option ContextUnit).
          WalksLines (unit_probes_left (Some c) o + found_looks f) (unit_probes_left (cursor_after f) o) us
          (set us n new))
          (sym plain_here)
          (walks_set (probes_left c u.value.unit.lines + found_looks f)
          (unit_probes_left (cursor_after f) (Some u.value.unit))
          (step_name u.probes new.probes c u.value.unit.lines f steps) (by f steps))
        where
          by : (r : Option (RowStretch × LineCursor)) → StepsOn c u.value.unit.lines r u.probes new.probes
              → new.probes.count + unit_probes_left (cursor_after r) (Some u.value.unit)
              ≤ u.probes.count + (probes_left c u.value.unit.lines + found_looks r)
          by None steps = step_takes u.probes new.probes c u.value.unit.lines None steps
          by (Some p) steps = step_takes u.probes new.probes c u.value.unit.lines (Some p) steps

-- ---- one range after the other

-- a step moves a walk in the range that it is in, or out of it
moves : (units : List ContextUnit) (result : Result (Option UnitStretch) Error) (old new : RangeWalk)
    → NextOfRows units result old new → new ≡ record old { rows = new.rows }
moves units (Ok (Some s)) old new h = h.0
moves units (Ok None) old new h =
    h.0 ∙ ap (λ (o : Option RangeRows). record old { rows = o }) (sym (ap (λ (w : RangeWalk). w.rows) h.0))
moves units (Err e) old new h =
    h.0 ∙ ap (λ (o : Option RangeRows). record old { rows = o }) (sym (ap (λ (w : RangeWalk). w.rows) h.0))

-- the ranges after it are left as before
same_later : (units : List ContextUnit) (ranges : List UnitRange) (old new : RangeWalk)
    → new ≡ record old { rows = new.rows }
    → looks_from units new.low new.high ranges new.next.index ≡ looks_from units old.low old.high ranges old.next.index
same_later units ranges old new moved =
    ap (λ (w : RangeWalk). looks_from units w.low w.high ranges w.next.index) moved

module _ (ranges : List UnitRange) (us vs ws : List ResolvedUnit) (same : map value_of_unit vs ≡ map value_of_unit us)
    (old new : RangeWalk) where
  abbrev units : List ContextUnit
  units = map plain_unit us

  -- a step in the range that a walk is in is one of the walk
  pub step_walks : (result : Result (Option UnitStretch) Error) → NextOfRows (map plain_unit vs) result old new
      → WalksLines (rows_looks (map plain_unit vs) old.rows + step_looks result)
      (rows_looks (map plain_unit vs) new.rows) vs ws
      → WalksLines (walk_looks units ranges old + step_looks result) (walk_looks units ranges new) vs ws
  step_walks result step h =
      let moved = moves (map plain_unit vs) result old new step in
      let later = same_later units ranges old new moved in
      let here : WalksLines (rows_looks units old.rows + step_looks result) (rows_looks units new.rows) vs ws =
      subst (λ (xs : List ContextUnit).
      WalksLines (rows_looks xs old.rows + step_looks result) (rows_looks xs new.rows) vs ws)
      (same_plain vs us same) h in
      walks_beside (looks_from units old.low old.high ranges old.next.index)
      (rows_looks units old.rows + step_looks result) (rows_looks units new.rows)
      (walk_looks units ranges old + step_looks result) (walk_looks units ranges new) vs ws (omega arith)
      (omega (arith, later)) here

  -- and of a walk that came there
  pub walks_on : (begun : RangeWalk) (result : Result (Option UnitStretch) Error) (n : ℕ)
      → walk_looks units ranges begun + step_looks result ≤ n
      → WalksLines (walk_looks units ranges begun) (walk_looks units ranges old) us vs
      → NextOfRows (map plain_unit vs) result old new
      → WalksLines (rows_looks (map plain_unit vs) old.rows + step_looks result)
      (rows_looks (map plain_unit vs) new.rows) vs ws
      → WalksLines n (walk_looks units ranges new) us ws
  walks_on begun result n enough before step h =
      let b = walk_looks units ranges begun in
      let o = walk_looks units ranges old in
      let s = step_looks result in
      walks_from (b + s) (walk_looks units ranges new) n us ws enough
      (walks_both (b + s) (o + s) (walk_looks units ranges new) us vs ws
      (walks_beside s b o (b + s) (o + s) us vs (omega arith) (omega arith) before) (step_walks result step h))

-- a row takes no more than three
pub found_few : {A : Type 0} (o : Option A) → found_looks o ≤ 3
found_few None = omega arith
found_few (Some x) = omega arith

module _ (ranges : List UnitRange) (us vs ws : List ResolvedUnit) (same : map value_of_unit vs ≡ map value_of_unit us)
    (w : RangeWalk) (r : UnitRange) where
  abbrev all : List ContextUnit
  all = map plain_unit us

  here_too : (result : Result (Option RangeRows) Error)
      → WalksLines (range_looks (map plain_unit vs) r) (begun_looks (map plain_unit vs) r result) vs ws
      → WalksLines (range_looks all r) (begun_looks all r result) vs ws
  here_too result h =
      subst (λ (xs : List ContextUnit). WalksLines (range_looks xs r) (begun_looks xs r result) vs ws)
      (same_plain vs us same) h

  -- it stays before a range that it doesn't come to
  pub refused_walks : (e : Error)
      → WalksLines (range_looks (map plain_unit vs) r) (begun_looks (map plain_unit vs) r (Err e)) vs ws
      → (n : ℕ) → WalksLines n n vs ws
  refused_walks e h n =
      let cost = h.cost in
      record {
        values = h.values;
        calls = h.calls;
        cost =
            record {
              counters = cost.counters;
              probes = omega (arith, cost.probes);
              more = cost.more;
              functions = cost.functions;
            };
        functions = h.functions;
      }

  -- it comes to the next range
  pub range_walks : (next : RangePlace) (rows : Option RangeRows)
      → overlapping_ranges w.low w.high (drop w.next.index ranges)
      ≡ r ∷ overlapping_ranges w.low w.high (drop next.index ranges)
      → WalksLines (range_looks (map plain_unit vs) r) (begun_looks (map plain_unit vs) r (Ok rows)) vs ws
      → WalksLines (walk_looks all ranges w)
      (walk_looks all ranges (record { low = w.low; high = w.high; rows = rows; next = next })) vs ws
  range_walks next rows is h =
      let rest = overlapping_ranges w.low w.high (drop next.index ranges) in
      let later = looks_from all w.low w.high ranges next.index in
      let there = walk_looks all ranges (record { low = w.low; high = w.high; rows = rows; next = next }) in
      let left : looks_from all w.low w.high ranges w.next.index ≡ range_looks all r + later =
      ap (sum_by (range_looks all)) is ∙ sum_by-cons (range_looks all) r rest in
      walks_from (later + range_looks all r) there (walk_looks all ranges w) vs ws (omega (arith, left))
      (walks_beside later (range_looks all r) (rows_looks all rows) (later + range_looks all r) there vs ws refl
      (omega arith) (here_too (Ok rows) h))
