-- Lookups of a context are those over its units, by their numbers.
use Rattle.std.proofs.Common.{◌≡◌, ℕ, Bool, List, [], ◌∷◌, map, slice_get, Option, Some, None, option_map, Result, Ok, Err, refl, sym, ap, ◌∙◌}
use Rattle.std.specs.Prelude.{option_and_then}
use Rattle.std.proofs.lemmas.Simd.{map-map}
use Rattle.std.proofs.lemmas.Option.{slice_get-map}
use Rattle.addr2line_lookups.specs.Error.{Error}
use Rattle.addr2line_lookups.specs.Results.{◌>>=◌}
use Rattle.addr2line_lookups.specs.DwarfFiles.{DwarfFile}
use Rattle.addr2line_lookups.specs.UnitFacts.{UnitFacts, UnitInFile, in_file}
use Rattle.addr2line_lookups.specs.Frames.{Frame, frames_of_unit}
use Rattle.addr2line_lookups.specs.FirstAnswers.{SplitLoad, FirstAnswer, FirstAnswers, recorded_answer, Lookup, decision, load_of}
use Rattle.addr2line_lookups.specs.Lookups.{map_output, first_output, is_answer, is_there, frames_under, unit_under}
use Rattle.addr2line_lookups.specs.Pairs.{Pair, covering_pairs}
use Rattle.addr2line_lookups.specs.EntryReferences.{KnownUnits}
use Rattle.addr2line_lookups.specs.ContextNames.{known_units, naming_in, naming_from}
use Rattle.addr2line_lookups.specs.Contexts.{ContextUnit, FileContext, ranges_of}
use Rattle.addr2line_lookups.specs.NumberedRanges.{numbered_range, covering_ranges}
use Rattle.addr2line_lookups.specs.ContextUnits.{ordered_ranges}
use Rattle.addr2line_lookups.specs.ResolvedUnits.{AnsweredUnit, ResolvedUnit, value_of_unit, plain_unit, main_unit, undecided, decided, first_answer, pending_load, unit_of_functions}
use Rattle.addr2line_lookups.specs.AnsweredUnits.{answers_of, AreOfFile}
use Rattle.addr2line_lookups.specs.Preloads.{numbered_load}
use Rattle.addr2line_lookups.specs.KeptCalls.{known_among}
use Rattle.addr2line_lookups.specs.FramePlaces.{frames_of_answered}
use Rattle.addr2line_lookups.specs.UnitLookups.{unless_waiting, ask_if_any, ask_at, frames_among, unit_among, unit_with, unit_of_answered}
use Rattle.addr2line_lookups.proofs.UnitAnswers.{Each, IsAt, covering_at}
use Rattle.addr2line_lookups.proofs.NewUnits.{unit_of}
use Rattle.addr2line_lookups.proofs.ContextOfUnits.{context_of_units}
use Rattle.addr2line_lookups.proofs.PendingUnits.{recorded_here, same_file, covering_by_numbers}
use Rattle.addr2line_context.specs.AnsweredContexts.{AnsweredContext}
use Rattle.addr2line_context.specs.SettledLookups.{frames_in, unit_in}
use Rattle.addr2line_context.proofs.ContextParts.{context_with}

-- ---- one unit

-- what is asked of a unit's first answer
decided_asked : {A : Type 0} (f : FirstAnswer → A) (n : ℕ) (load : Result (Option SplitLoad) Error)
    (first : Option FirstAnswer)
    → map_output f (decision n load first)
    ≡ unless_waiting (option_map (numbered_load n) (undecided load first)) (f (decided load first))
decided_asked f n (Ok None) first = refl
decided_asked f n (Err e) first = refl
decided_asked f n (Ok (Some l)) None = refl
decided_asked f n (Ok (Some l)) (Some x) = refl

module _ (file : DwarfFile) (vs : List AnsweredUnit) (of_file : AreOfFile file vs) {A : Type 0}
    (ask : DwarfFile → ContextUnit → FirstAnswer → A) (asked : AnsweredUnit → A) (nothing : A)
    (same : (v : AnsweredUnit) → ask v.file v.unit (first_answer v) ≡ asked v) where
  abbrev answers : FirstAnswers
  answers = answers_of vs

  abbrev units : List ContextUnit
  units = map unit_of vs

  abbrev asked_with : ℕ → DwarfFile → ContextUnit → Option FirstAnswer → Lookup A
  asked_with n f u first = map_output (ask f u) (decision n (load_of (in_file f u.facts)) first)

  asked_of : (n : ℕ) (u : ContextUnit) (o : Option AnsweredUnit) → slice_get vs n ≡ o → option_map unit_of o ≡ Some u
      → asked_with n file u (recorded_answer answers n)
      ≡ unless_waiting (option_map (numbered_load n) (option_and_then pending_load o)) (ask_if_any asked nothing o)
  asked_of n u None is here = absurd cc
  asked_of n u (Some v) is here =
      let same_unit : v.unit ≡ u = cc in
      ap (λ x. asked_with n file x (recorded_answer answers n)) (sym same_unit)
      ∙ ap (λ f. asked_with n f v.unit (recorded_answer answers n)) (sym (same_file file vs of_file n v is))
      ∙ ap (asked_with n v.file v.unit) (recorded_here file vs of_file n v is)
      ∙ decided_asked (ask v.file v.unit) n (load_of (main_unit v)) v.first
      ∙ ap (unless_waiting (option_map (numbered_load n) (undecided (load_of (main_unit v)) v.first))) (same v)

  asked_here : (n : ℕ) (u : ContextUnit) → slice_get units n ≡ Some u
      → asked_with n file u (recorded_answer answers n) ≡ ask_at asked nothing vs n
  asked_here n u here =
      asked_of n u (slice_get vs n) refl (sym (slice_get-map unit_of vs n) ∙ here)

  -- ---- all

  asked_by_numbers : (ps : List (Pair ContextUnit)) → Each ranges_of (IsAt ranges_of units) ps
      → map (λ p. asked_with p.number file p.unit (recorded_answer answers p.number)) ps
      ≡ map (λ r. ask_at asked nothing vs r.unit) (map numbered_range ps)
  asked_by_numbers [] h = refl
  asked_by_numbers (p ∷ ps) h =
      ap (λ l. l ∷ map (λ q. asked_with q.number file q.unit (recorded_answer answers q.number)) ps)
      (asked_here p.number p.unit h.0)
      ∙ ap (λ ls. ask_at asked nothing vs p.number ∷ ls) (asked_by_numbers ps h.1)

  -- a lookup over the units is one over their numbers
  pub asked_covering : (is_something : A → Bool) (a : ℕ)
      → first_output is_something nothing
      (map (λ p. asked_with p.number file p.unit (recorded_answer answers p.number)) (covering_pairs ranges_of units a))
      ≡ first_output is_something nothing
      (map (λ r. ask_at asked nothing vs r.unit) (covering_ranges a (ordered_ranges units)))
  asked_covering is_something a =
      ap (first_output is_something nothing)
      (asked_by_numbers (covering_pairs ranges_of units a) (covering_at ranges_of units a)
      ∙ ap (map (λ r. ask_at asked nothing vs r.unit)) (sym (covering_by_numbers file vs of_file a)))

-- ---- frames and units under a first answer

abbrev frames_by_decision : KnownUnits → ℕ → DwarfFile → ContextUnit → FirstAnswer → Result (List Frame) Error
frames_by_decision known a f u first = do
  holder ← unit_of_functions (in_file f u.facts) first
  frames_of_unit holder.unit (naming_from known holder) u.language u.lines a

abbrev unit_by_decision : KnownUnits → ℕ → DwarfFile → ContextUnit → FirstAnswer → Option UnitInFile
unit_by_decision known a f u first =
    unit_with (frames_by_decision known a f u first) (unit_of_functions (in_file f u.facts) first)

module _ (c : FileContext) (a : ℕ) where
  abbrev in_context : DwarfFile → FileContext
  in_context f = record c { file = f }

  frames_by_answer : (u : ContextUnit) (f : DwarfFile) (first : FirstAnswer)
      → frames_under (in_context f) (naming_in c) a u first ≡ frames_by_decision (known_units c) a f u first
  frames_by_answer u f (Ok split) = refl
  frames_by_answer u f (Err e) = refl

  unit_by_answer : (u : ContextUnit) (f : DwarfFile) (first : FirstAnswer)
      → unit_under (in_context f) (naming_in c) a u first ≡ unit_by_decision (known_units c) a f u first
  unit_by_answer u f (Ok split) = refl
  unit_by_answer u f (Err e) = refl

-- ---- contexts

module _ (file : DwarfFile) (us : List ResolvedUnit) (s : List UnitFacts)
    (of_file : AreOfFile file (map value_of_unit us)) (a : ℕ) (c : AnsweredContext)
    (is : context_with file us s ≡ c) where
  abbrev vs : List AnsweredUnit
  vs = map value_of_unit us

  abbrev here : FileContext
  here = context_of_units file (map unit_of vs) s

  abbrev context_here : AnsweredContext
  context_here = record { plain = here; answers = answers_of vs }

  plain_here : map unit_of vs ≡ map plain_unit us
  plain_here = map-map unit_of value_of_unit us

  is_here : context_here ≡ c
  is_here = ap (λ units. record { plain = context_of_units file units s; answers = answers_of vs }) plain_here ∙ is

  known_here : known_units here ≡ known_among us s
  known_here =
      ap (λ facts. record { units = facts; supplement_units = s })
      (map-map (λ (u : ContextUnit). u.facts) unit_of vs
      ∙ map-map (λ (v : AnsweredUnit). v.unit.facts) value_of_unit us)

  -- the frames of an address
  pub frames_in_context : frames_in c a
      ≡ frames_among (known_among us s) vs a (covering_ranges a (ordered_ranges (map plain_unit us)))
  frames_in_context =
      ap (λ (x : AnsweredContext). frames_in x a) (sym is_here)
      ∙ asked_covering file vs of_file (λ f u first. frames_under (in_context here a f) (naming_in here) a u first)
      (frames_of_answered (known_units here) a) (Ok [])
      (λ v. frames_by_answer here a v.unit v.file (first_answer v)) is_answer a
      ∙ ap (λ known. frames_among known vs a (covering_ranges a (ordered_ranges (map unit_of vs)))) known_here
      ∙ ap (λ units. frames_among (known_among us s) vs a (covering_ranges a (ordered_ranges units))) plain_here

  -- the unit of an address
  pub unit_in_context : unit_in c a
      ≡ unit_among (known_among us s) vs a (covering_ranges a (ordered_ranges (map plain_unit us)))
  unit_in_context =
      ap (λ (x : AnsweredContext). unit_in x a) (sym is_here)
      ∙ asked_covering file vs of_file (λ f u first. unit_under (in_context here a f) (naming_in here) a u first)
      (unit_of_answered (known_units here) a) None
      (λ v. unit_by_answer here a v.unit v.file (first_answer v)) is_there a
      ∙ ap (λ known. unit_among known vs a (covering_ranges a (ordered_ranges (map unit_of vs)))) known_here
      ∙ ap (λ units. unit_among (known_among us s) vs a (covering_ranges a (ordered_ranges units))) plain_here
