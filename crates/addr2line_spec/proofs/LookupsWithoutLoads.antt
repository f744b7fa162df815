-- Lookups where no unit has a split part.
use Rattle.std.proofs.Common.{◌≡◌, ℕ, ◌+◌, Bool, true, false, cond, List, [], ◌∷◌, map, All, Option, None, Result, Ok, Err, refl, ap, ◌∙◌}
use Rattle.std.proofs.lemmas.List.Elements.{All-nil, All-cons, All-head, All-tail, All-append, All-map, All-filter}
use Rattle.gimli_lines_machine.specs.Error.{Error}
use Rattle.gimli_lines_machine.specs.Range.{Range}
use Rattle.addr2line_spec.specs.Choice.{holds}
use Rattle.addr2line_spec.specs.Orders.{put_in_order, in_order}
use Rattle.addr2line_spec.specs.Pairs.{Pair, pairs_of, pairs_from, ends_after, all_pairs, covering_pairs}
use Rattle.addr2line_spec.specs.Frames.{Frame}
use Rattle.addr2line_spec.specs.FrameLookups.{first_nonempty}
use Rattle.addr2line_spec.specs.OptionalValues.{if_any}
use Rattle.addr2line_spec.specs.FirstAnswers.{FirstAnswer, FirstAnswers, Lookup, output, load_of_id, recorded_answer, decision}
use Rattle.addr2line_spec.specs.Contexts.{ContextUnit, FileContext}
use Rattle.addr2line_spec.specs.Lookups.{Namings, map_output, first_output, unit_in, decision_of, frames_under, is_answer}
use Rattle.addr2line_spec.specs.SuspensionLaws.{HasNoSplitPart, frames_of_itself}

-- ---- pairs

module _ {X : Type 0} (P : X → Type 0) (comes_after : X → X → Bool) where
  all_put : (x : X) (ys : List X) → P x → All P ys → All P (put_in_order comes_after x ys)
  all_put x [] here h = All-cons P x [] here h
  all_put x (y ∷ ys) here h = by (comes_after x y) (all_put x ys here (All-tail P y ys h))
    where
      by : (b : Bool) → All P (put_in_order comes_after x ys)
          → All P (cond b (y ∷ put_in_order comes_after x ys) (x ∷ y ∷ ys))
      by true later = All-cons P y (put_in_order comes_after x ys) (All-head P y ys h) later
      by false later = All-cons P x (y ∷ ys) here h

  pub all_in_order : (xs : List X) → All P xs → All P (in_order comes_after xs)
  all_in_order [] h = h
  all_in_order (x ∷ xs) h =
      all_put x (in_order comes_after xs) (All-head P x xs h) (all_in_order xs (All-tail P x xs h))

module _ {U : Type 0} (ranges : U → List Range) (P : U → Type 0) where
  abbrev of_unit : Pair U → Type 0
  of_unit p = P p.unit

  all_from : (n : ℕ) (us : List U) → All P us → All of_unit (pairs_from ranges n us)
  all_from n [] h = All-nil of_unit
  all_from n (u ∷ us) h =
      All-append of_unit (pairs_of ranges n u) (pairs_from ranges (n + 1) us)
      (All-map of_unit (λ (r : Range). record { range = r; number = n; unit = u }) (ranges u)
      (λ k d below. All-head P u us h)) (all_from (n + 1) us (All-tail P u us h))

  -- what holds of all units holds of those with a range over an address
  pub all_covering : (us : List U) (a : ℕ) → All P us → All of_unit (covering_pairs ranges us a)
  all_covering us a h =
      All-filter (λ (p : Pair U). holds a p.range) of_unit (all_pairs ranges us)
      (all_in_order of_unit ends_after (pairs_from ranges 0 us) (all_from 0 us h))

-- ---- frames

module _ (c : FileContext) (naming : Namings) (answers : FirstAnswers) (a : ℕ) where
  abbrev frames_lookup : Pair ContextUnit → Lookup (Result (List Frame) Error)
  frames_lookup p = map_output (frames_under c naming a p.unit) (decision_of c answers p.number p.unit)

  abbrev itself : Pair ContextUnit → Result (List Frame) Error
  itself p = frames_of_itself c naming p.unit a

  -- nothing has to be known of a unit without a split part
  needs_no_load : (p : Pair ContextUnit) → HasNoSplitPart p.unit
      → decision_of c answers p.number p.unit ≡ output (Ok None)
  needs_no_load p h =
      ap (λ (id : Option ℕ). decision p.number (if_any (load_of_id (unit_in c p.unit)) id)
      (recorded_answer answers p.number)) h

  pub without_loads : (ps : List (Pair ContextUnit)) → All (λ p. HasNoSplitPart p.unit) ps
      → first_output is_answer (Ok []) (map frames_lookup ps) ≡ output (first_nonempty (map itself ps))
  without_loads [] h = refl
  without_loads (p ∷ ps) h =
      ap (λ (d : Lookup FirstAnswer). first_output is_answer (Ok [])
      (map_output (frames_under c naming a p.unit) d ∷ map frames_lookup ps))
      (needs_no_load p (All-head (λ (q : Pair ContextUnit). HasNoSplitPart q.unit) p ps h))
      ∙ by (itself p) (without_loads ps (All-tail (λ (q : Pair ContextUnit). HasNoSplitPart q.unit) p ps h))
    where
      by : (r : Result (List Frame) Error)
          → first_output is_answer (Ok []) (map frames_lookup ps) ≡ output (first_nonempty (map itself ps))
          → first_output is_answer (Ok []) (output r ∷ map frames_lookup ps)
          ≡ output (first_nonempty (r ∷ map itself ps))
      by (Ok []) later = later
      by (Ok (f ∷ fs)) later = refl
      by (Err e) later = refl
