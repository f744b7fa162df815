-- Lookups over units, one after the other, as they are settled.
use Rattle.std.proofs.Common.{◌≡◌, ℕ, Bool, true, false, cond, List, [], ◌∷◌, map, slice_get, Option, Some, None, option_map, Result, Ok, Err, refl, sym, ap, ◌∙◌, subst}
use Rattle.std.specs.Prelude.{is_some}
use Rattle.std.proofs.lemmas.Option.{slice_get-map}
use Rattle.addr2line_unit.specs.Error.{Error}
use Rattle.addr2line_unit.specs.UnitFacts.{UnitFacts, UnitInFile}
use Rattle.addr2line_unit.specs.Results.{and_then}
use Rattle.addr2line_unit.specs.Frames.{Frame, frames_of_unit}
use Rattle.addr2line_unit.specs.FirstAnswers.{PendingLoad, Lookup, output}
use Rattle.addr2line_unit.specs.Lookups.{first_output, has_frames, is_there}
use Rattle.addr2line_unit.specs.UnitRange.{UnitRange}
use Rattle.addr2line_unit.specs.EntryReferences.{KnownUnits, HoldingUnit}
use Rattle.addr2line_unit.specs.ResolvedUnits.{ResolvedUnit, AnsweredUnit, value_of_unit, main_unit, first_answer, unit_of_functions}
use Rattle.addr2line_unit.specs.ContextNames.{naming_from}
use Rattle.addr2line_lookups.specs.KeptUnits.{KeepsFunctionsAt}
use Rattle.addr2line_lookups.specs.Preloads.{load_at}
use Rattle.addr2line_lookups.specs.KeptCalls.{known_among, HoldCalls}
use Rattle.addr2line_lookups.specs.FramePlaces.{frames_of_answered, frames_of_any, frames_at_number}
use Rattle.addr2line_lookups.specs.UnitLookups.{unless_waiting, ask_if_any, ask_at, first_asked, IsPending, unit_with, unit_of_answered, unit_if_any, unit_at_number, FoundUnit}
use Rattle.addr2line_lookups.specs.declared.frame_place.FramePlace.{FramePlace}
use Rattle.addr2line_lookups.proofs.CallsLeft.{known_same}

-- ---- the first and the rest

module _ {A : Type 0} (is_something : A → Bool) (ask : AnsweredUnit → A) (nothing : A) (vs : List AnsweredUnit)
    (r : UnitRange) (old rest : List UnitRange) (is : old ≡ r ∷ rest) where
  abbrev here : UnitRange → Lookup A
  here q = ask_at ask nothing vs q.unit

  abbrev asked : List UnitRange → Lookup A
  asked rs = first_asked is_something ask nothing vs rs

  abbrev before_rest : Lookup A → Lookup A
  before_rest l = first_output is_something nothing (l ∷ map here rest)

  pub first_waits : IsPending (here r) → IsPending (asked old)
  first_waits h = (h.0, ap asked is ∙ ap before_rest h.1)

  pub first_answers : (x : A) → here r ≡ output x → is_something x ≡ true → asked old ≡ output x
  first_answers x h some =
      ap asked is ∙ ap before_rest h ∙ ap (λ b. cond b (output x) (asked rest)) some

  pub first_passes : (x : A) → here r ≡ output x → is_something x ≡ false → asked old ≡ asked rest
  first_passes x h none =
      ap asked is ∙ ap before_rest h ∙ ap (λ b. cond b (output x) (asked rest)) none

-- ---- units with the same values

module _ (us vs : List ResolvedUnit) (same : map value_of_unit vs ≡ map value_of_unit us) where
  pub calls_same : (s : List UnitFacts) (ws : List ResolvedUnit) → HoldCalls (known_among us s) ws
      → HoldCalls (known_among vs s) ws
  calls_same s ws h = subst (λ known. HoldCalls known ws) (sym (known_same us vs same s)) h

  pub calls_back : (s : List UnitFacts) (ws : List ResolvedUnit) → HoldCalls (known_among vs s) ws
      → HoldCalls (known_among us s) ws
  calls_back s ws h = subst (λ known. HoldCalls known ws) (known_same us vs same s) h

-- ---- one unit

-- a unit that waits
waits : {A : Type 0} (o : Option PendingLoad) (x : A) → true ≡ is_some o → IsPending (unless_waiting o x)
waits None x h = absurd cc
waits (Some p) x h = (p, refl)

-- one that doesn't
waits_not : (o : Option PendingLoad) → false ≡ is_some o → o ≡ None
waits_not None h = refl
waits_not (Some p) h = absurd cc

-- the unit of a number
module _ (us xs : List ResolvedUnit) (n : ℕ) (same : xs ≡ us) where
  pub waits_here : {A : Type 0} (ask : AnsweredUnit → A) (nothing : A)
      → true ≡ is_some (load_at (map value_of_unit xs) n) → IsPending (ask_at ask nothing (map value_of_unit us) n)
  waits_here ask nothing h =
      waits (load_at (map value_of_unit us) n) (ask_if_any ask nothing (slice_get (map value_of_unit us) n))
      (subst (λ (l : List ResolvedUnit). true ≡ is_some (load_at (map value_of_unit l) n)) same h)

  pub decided_here : false ≡ is_some (load_at (map value_of_unit xs) n) → load_at (map value_of_unit us) n ≡ None
  decided_here h =
      waits_not (load_at (map value_of_unit us) n)
      (subst (λ (l : List ResolvedUnit). false ≡ is_some (load_at (map value_of_unit l) n)) same h)

-- a place, if one was found
abbrev pub ok_place : Option FramePlace → Result (Option FramePlace) Error
ok_place o = Ok o

-- what is asked of a decided unit
pub asked_decided : {A : Type 0} (ask : AnsweredUnit → A) (nothing : A) (vs : List AnsweredUnit) (n : ℕ)
    → load_at vs n ≡ None → ask_at ask nothing vs n ≡ output (ask_if_any ask nothing (slice_get vs n))
asked_decided ask nothing vs n decided =
    ap (λ o. unless_waiting o (ask_if_any ask nothing (slice_get vs n))) decided

module _ (known : KnownUnits) (vs : List AnsweredUnit) (a n : ℕ) where
  any_frames : (o : Option AnsweredUnit)
      → ask_if_any (frames_of_answered known a) (Ok []) o ≡ frames_of_any known a o
  any_frames None = refl
  any_frames (Some v) = refl

  -- its frames
  pub asked_frames : output (ask_if_any (frames_of_answered known a) (Ok []) (slice_get vs n))
      ≡ output (frames_at_number known vs a n)
  asked_frames = ap output (any_frames (slice_get vs n))

  -- its unit
  abbrev asked_unit : Lookup (Option UnitInFile)
  asked_unit = output (ask_if_any (unit_of_answered known a) None (slice_get vs n))

  abbrev holder_of : AnsweredUnit → Result HoldingUnit Error
  holder_of v = unit_of_functions (main_unit v) (first_answer v)

  with_frames : (r : Result HoldingUnit Error) (frames : Result (List Frame) Error)
      → has_frames frames ≡ true → unit_with frames r ≡ unit_if_any r
  with_frames (Err e) frames h = refl
  with_frames (Ok holder) frames h = ap (λ b. cond b (Some holder.unit) None) h

  without_frames : (r : Result HoldingUnit Error) (frames : Result (List Frame) Error)
      → has_frames frames ≡ false → unit_with frames r ≡ None
  without_frames (Err e) frames h = refl
  without_frames (Ok holder) frames h = ap (λ b. cond b (Some holder.unit) None) h

  any_with : (o : Option AnsweredUnit) → has_frames (frames_of_any known a o) ≡ true
      → ask_if_any (unit_of_answered known a) None o ≡ ask_if_any (λ v. unit_if_any (holder_of v)) None o
  any_with None h = absurd cc
  any_with (Some v) h = with_frames (holder_of v) (frames_of_answered known a v) h

  any_without : (o : Option AnsweredUnit) → has_frames (frames_of_any known a o) ≡ false
      → ask_if_any (unit_of_answered known a) None o ≡ None
  any_without None h = refl
  any_without (Some v) h = without_frames (holder_of v) (frames_of_answered known a v) h

  without_unit : has_frames (frames_at_number known vs a n) ≡ false → asked_unit ≡ output None
  without_unit h = ap output (any_without (slice_get vs n) h)

  pub no_unit : frames_at_number known vs a n ≡ Ok [] → asked_unit ≡ output None
  no_unit h = without_unit (ap has_frames h)

  pub refused_unit : (e : Error) → frames_at_number known vs a n ≡ Err e → asked_unit ≡ output None
  refused_unit e h = without_unit (ap has_frames h)

  -- where there are frames, there is a unit
  is_held : (r : Result HoldingUnit Error) (more : HoldingUnit → Result (List Frame) Error)
      → has_frames (and_then r more) ≡ true → is_there (unit_if_any r) ≡ true
  is_held (Err e) more h = absurd cc
  is_held (Ok holder) more h = refl

  any_held : (o : Option AnsweredUnit) → has_frames (frames_of_any known a o) ≡ true
      → is_there (ask_if_any (λ v. unit_if_any (holder_of v)) None o) ≡ true
  any_held None h = absurd cc
  any_held (Some v) h =
      is_held (holder_of v)
      (λ holder. frames_of_unit holder.unit (naming_from known holder) v.unit.language v.unit.lines a) h

  pub has_unit : (us : List ResolvedUnit) → has_frames (frames_at_number known vs a n) ≡ true → KeepsFunctionsAt us n
      → FoundUnit vs us asked_unit n
  has_unit us h kept = record {
    is_found = ap output (any_with (slice_get vs n) h);
    is_one = any_held (slice_get vs n) h;
    keeps_functions = kept;
  }

-- ---- the unit of a number

abbrev unit_held : AnsweredUnit → Option UnitInFile
unit_held v = unit_if_any (unit_of_functions (main_unit v) (first_answer v))

abbrev unit_held_if_any : Option ResolvedUnit → Option UnitInFile
unit_held_if_any o = ask_if_any unit_held None (option_map value_of_unit o)

pub unit_by_number : (us : List ResolvedUnit) (n : ℕ) (o : Option ResolvedUnit) → o ≡ slice_get us n
    → unit_at_number (map value_of_unit us) n ≡ unit_held_if_any o
unit_by_number us n o is =
    ap (ask_if_any unit_held None) (slice_get-map value_of_unit us n)
    ∙ ap unit_held_if_any (sym is)
