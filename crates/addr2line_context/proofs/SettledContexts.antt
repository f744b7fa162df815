-- What settling over its units says of a context.
use Rattle.std.proofs.Common.{◌≡◌, ℕ, List, map, Option, Result, refl, sym, ap, ◌∙◌, subst}
use Rattle.addr2line_lookups.specs.Error.{Error}
use Rattle.addr2line_lookups.specs.DwarfFiles.{DwarfFile}
use Rattle.addr2line_lookups.specs.UnitFacts.{UnitFacts, UnitInFile}
use Rattle.addr2line_lookups.specs.Frames.{Frame}
use Rattle.addr2line_lookups.specs.FirstAnswers.{Lookup}
use Rattle.addr2line_lookups.specs.UnitRange.{UnitRange}
use Rattle.addr2line_lookups.specs.EntryReferences.{KnownUnits}
use Rattle.addr2line_lookups.specs.ContextNames.{known_units}
use Rattle.addr2line_lookups.specs.NumberedRanges.{covering_ranges}
use Rattle.addr2line_lookups.specs.ContextUnits.{ordered_ranges}
use Rattle.addr2line_lookups.specs.ResolvedUnits.{AnsweredUnit, ResolvedUnit, value_of_unit, plain_unit}
use Rattle.addr2line_lookups.specs.AnsweredUnits.{AreOfFile}
use Rattle.addr2line_lookups.specs.KeptUnits.{KeepMoreFunctions, ReadsAsked, ReadsAskedFunctions}
use Rattle.addr2line_lookups.specs.KeptCalls.{known_among, HoldCalls}
use Rattle.addr2line_lookups.specs.LookupCosts.{AtMostLooks, frame_search_looks, unit_search_looks}
use Rattle.addr2line_lookups.specs.UnitLookups.{frames_among, SettlesFrames, unit_among, SettlesUnit}
use Rattle.addr2line_lookups.specs.PassedUnits.{PassedAreKept, AsksFramesAmong, AsksUnitAmong, KeepsAskedFunctions}
use Rattle.addr2line_lookups.specs.declared.frame_place.FramePlace.{FramePlace}
use Rattle.addr2line_lookups.specs.declared.settled.Settled.{Settled}
use Rattle.addr2line_lookups.proofs.CallsLeft.{known_same}
use Rattle.addr2line_lookups.proofs.PassedUnits.{kept_still}
use Rattle.addr2line_context.specs.Progresses.{IsIndexFor, PassFramesIn, PassUnitsIn, PassedAreKeptIn}
use Rattle.addr2line_context.specs.KeptContexts.{ResolvedContext, HoldsUnits}
use Rattle.addr2line_context.specs.declared.progress.Progress.{Progress}
use Rattle.addr2line_context.specs.ContextCosts.{answered_units, ranges_over, frame_search, unit_search, AfterSearch}
use Rattle.addr2line_context.specs.SettledLookups.{frames_in, unit_in}
use Rattle.addr2line_context.proofs.ContextParts.{resolved_with, value_is, after_lookup}
use Rattle.addr2line_context.proofs.ContextLooks.{answered_here, known_here, ranges_here, search_looks_here}
use Rattle.addr2line_context.proofs.KeptUnits.{pass_for, frames_first, units_first, keeps_first, holds_calls}
use Rattle.addr2line_context.proofs.AskedUnits.{frames_in_context, unit_in_context}

-- The units s of the supplement are handed in as a slice, which is `given`.
module _ (file : DwarfFile) (us : List ResolvedUnit) (s : List UnitFacts) {frames unit : Progress}
    (holds : HoldsUnits file s us frames unit) (given : List UnitFacts) (given_is : given ≡ s) where
  -- what settling asks for
  pub kept_calls : HoldCalls (known_among us given) us
  kept_calls =
      subst (λ (units : List UnitFacts). HoldCalls (known_among us units) us) (sym given_is) holds.calls_are_kept

  -- and where it goes on
  pub frames_go_on : (a index : ℕ) → IsIndexFor frames a index → PassFramesIn given us a index
  frames_go_on a index is =
      subst (λ (units : List UnitFacts). PassFramesIn units us a index) (sym given_is)
      (pass_for (PassFramesIn s us) frames a index (frames_first s us a 0 refl) holds.pass_frames is)

  pub unit_goes_on : (a index : ℕ) → IsIndexFor unit a index → PassUnitsIn given us a index
  unit_goes_on a index is =
      subst (λ (units : List UnitFacts). PassUnitsIn units us a index) (sym given_is)
      (pass_for (PassUnitsIn s us) unit a index (units_first s us a 0 refl) holds.pass_units is)

  -- the functions of the units before are kept
  pub frames_kept : (a index : ℕ) → IsIndexFor frames a index → PassedAreKeptIn us a index
  frames_kept a index is =
      pass_for (PassedAreKeptIn us) frames a index (keeps_first a 0 us refl) holds.frames_are_kept is

  pub unit_kept : (a index : ℕ) → IsIndexFor unit a index → PassedAreKeptIn us a index
  unit_kept a index is =
      pass_for (PassedAreKeptIn us) unit a index (keeps_first a 0 us refl) holds.units_are_kept is

  module _ (new : List ResolvedUnit) (same : map value_of_unit new ≡ map value_of_unit us) where
    abbrev KeptBefore : ℕ → ℕ → Type 0
    KeptBefore a index = PassedAreKept new a index (ordered_ranges (map plain_unit us))

    still_kept : KeepMoreFunctions us new → (a index : ℕ) → PassedAreKeptIn us a index → KeptBefore a index
    still_kept more a index = kept_still a (ordered_ranges (map plain_unit us)) us new index more

    -- what holds after it
    holds_with : HoldCalls (known_among us given) new → (f u : Progress) → PassFramesIn s us f.probe f.index
        → PassUnitsIn s us u.probe u.index → KeptBefore f.probe f.index → KeptBefore u.probe u.index
        → HoldsUnits file s new f u
    holds_with calls f u pass_frames pass_units kept_frames kept_units =
        holds_calls file s us new f u same (subst (AreOfFile file) (sym same) holds.are_of_file)
        (subst (λ known. HoldCalls known new) (sym (known_same us new same s))
        (subst (λ (units : List UnitFacts). HoldCalls (known_among us units) new) given_is calls))
        pass_frames pass_units kept_frames kept_units

    pub frames_hold : HoldCalls (known_among us given) new → KeepMoreFunctions us new → (a index : ℕ)
        → PassFramesIn given us a index → KeptBefore a index
        → HoldsUnits file s new (record { probe = a; index = index }) unit
    frames_hold calls more a index pass kept =
        holds_with calls (record { probe = a; index = index }) unit
        (subst (λ (units : List UnitFacts). PassFramesIn units us a index) given_is pass) holds.pass_units kept
        (still_kept more unit.probe unit.index holds.units_are_kept)

    pub unit_holds : HoldCalls (known_among us given) new → KeepMoreFunctions us new → (a index : ℕ)
        → PassUnitsIn given us a index → KeptBefore a index
        → HoldsUnits file s new frames (record { probe = a; index = index })
    unit_holds calls more a index pass kept =
        holds_with calls frames (record { probe = a; index = index }) holds.pass_frames
        (subst (λ (units : List UnitFacts). PassUnitsIn units us a index) given_is pass)
        (still_kept more frames.probe frames.index holds.frames_are_kept) kept

    module _ (a : ℕ) (c : ResolvedContext) (is : resolved_with file us s ≡ c) where
      abbrev looks_given : (KnownUnits → List AnsweredUnit → ℕ → List UnitRange → ℕ) → List UnitFacts → ℕ
      looks_given looks units =
          looks (known_among us units) (map value_of_unit us) a
          (covering_ranges a (ordered_ranges (map plain_unit us)))

      abbrev covering : List UnitRange
      covering = covering_ranges a (ordered_ranges (map plain_unit us))

      -- what is said of the units that it asks
      module _ (P : (ℕ → Type 0) → List ResolvedUnit → Type 0)
          (asks : KnownUnits → List AnsweredUnit → List UnitRange → ℕ → Type 0) where
        said_here : P (asks (known_among us given) (map value_of_unit us) covering) us
            → P (asks (known_units c.value.plain) (answered_units c.value) (ranges_over c.value a)) c.units
        said_here said =
            let value = value_is file us s c is in
            let known = known_units c.value.plain in
            let K : KnownUnits → Type 0 = λ k. P (asks k (map value_of_unit us) covering) us in
            let Q : List AnsweredUnit → Type 0 = λ vs. P (asks known vs covering) us in
            let R : List UnitRange → Type 0 = λ rs. P (asks known (answered_units c.value) rs) us in
            let S : ResolvedContext → Type 0 =
            λ x. P (asks known (answered_units c.value) (ranges_over c.value a)) x.units in
            subst S is
            (subst R (ranges_here file us s holds.are_of_file a c.value value)
            (subst Q (sym (answered_here file us s holds.are_of_file a c.value value))
            (subst K (sym (known_here file us s holds.are_of_file a c.value value))
            (subst (λ (units : List UnitFacts). K (known_among us units)) given_is said))))

      -- what it leaves
      after_search : (asks : KnownUnits → List AnsweredUnit → ℕ → List UnitRange → ℕ → Type 0)
          (looks : KnownUnits → List AnsweredUnit → ℕ → List UnitRange → ℕ) (has_memory : Type 0)
          → AtMostLooks (looks_given looks given) us new
          → ReadsAsked (asks (known_among us given) (map value_of_unit us) a covering) us new
          → ReadsAskedFunctions (asks (known_among us given) (map value_of_unit us) a covering) us new
          → (has_memory → KeepsAskedFunctions (asks (known_among us given) (map value_of_unit us) a covering) new)
          → AfterSearch (record {
            asks = λ x b. asks (known_units x.plain) (answered_units x) b (ranges_over x b);
            looks = λ x b. looks (known_units x.plain) (answered_units x) b (ranges_over x b);
          }) has_memory a c (resolved_with file new s)
      after_search asks looks has_memory cost reads functions asked =
          let value = value_is file us s c is in
          let after =
          after_lookup file us s c is (looks_given looks given)
          (looks (known_units c.value.plain) (answered_units c.value) a (ranges_over c.value a)) new
          (ap (looks_given looks) given_is
          ∙ search_looks_here file us s holds.are_of_file a c.value value looks) same cost in
          let among : KnownUnits → List AnsweredUnit → List UnitRange → ℕ → Type 0 = λ known vs. asks known vs a in
          record {
            value = after.value;
            cost = after.cost;
            reads = said_here (λ asked_units old. ReadsAsked asked_units old new) among reads;
            functions = said_here (λ asked_units old. ReadsAskedFunctions asked_units old new) among functions;
            asked = λ has. said_here (λ asked_units old. KeepsAskedFunctions asked_units new) among (asked has);
          }

      pub after_frames : (has_memory : Type 0) → AtMostLooks (looks_given frame_search_looks given) us new
          → ReadsAsked (AsksFramesAmong (known_among us given) (map value_of_unit us) a covering) us new
          → ReadsAskedFunctions (AsksFramesAmong (known_among us given) (map value_of_unit us) a covering) us new
          → (has_memory
          → KeepsAskedFunctions (AsksFramesAmong (known_among us given) (map value_of_unit us) a covering) new)
          → AfterSearch frame_search has_memory a c (resolved_with file new s)
      after_frames =
          after_search (λ known vs b rs. AsksFramesAmong known vs b rs)
          (λ known vs b rs. frame_search_looks known vs b rs)

      pub after_unit : (has_memory : Type 0) → AtMostLooks (looks_given unit_search_looks given) us new
          → ReadsAsked (AsksUnitAmong (known_among us given) (map value_of_unit us) a covering) us new
          → ReadsAskedFunctions (AsksUnitAmong (known_among us given) (map value_of_unit us) a covering) us new
          → (has_memory
          → KeepsAskedFunctions (AsksUnitAmong (known_among us given) (map value_of_unit us) a covering) new)
          → AfterSearch unit_search has_memory a c (resolved_with file new s)
      after_unit =
          after_search (λ known vs b rs. AsksUnitAmong known vs b rs) (λ known vs b rs. unit_search_looks known vs b rs)

      -- the frames that it finds
      abbrev frames_given : List UnitFacts → Lookup (Result (List Frame) Error)
      frames_given units =
          frames_among (known_among us units) (map value_of_unit us) a
          (covering_ranges a (ordered_ranges (map plain_unit us)))

      pub frames_settled : (result : Result (Settled FramePlace) Error) → SettlesFrames new (frames_given given) result
          → SettlesFrames new (frames_in c.value a) result
      frames_settled result =
          subst (λ (m : Lookup (Result (List Frame) Error)). SettlesFrames new m result)
          (ap frames_given given_is
          ∙ sym (frames_in_context file us s holds.are_of_file a c.value (value_is file us s c is)))

      -- the unit
      abbrev unit_given : List UnitFacts → Lookup (Option UnitInFile)
      unit_given units =
          unit_among (known_among us units) (map value_of_unit us) a
          (covering_ranges a (ordered_ranges (map plain_unit us)))

      pub unit_settled : (result : Result (Settled ℕ) Error)
          → SettlesUnit (map value_of_unit us) new (unit_given given) result
          → SettlesUnit (map value_of_unit new) new (unit_in c.value a) result
      unit_settled result h =
          subst (λ (vs : List AnsweredUnit). SettlesUnit vs new (unit_in c.value a) result) (sym same)
          (subst (λ (m : Lookup (Option UnitInFile)). SettlesUnit (map value_of_unit us) new m result)
          (ap unit_given given_is
          ∙ sym (unit_in_context file us s holds.are_of_file a c.value (value_is file us s c is))) h)
