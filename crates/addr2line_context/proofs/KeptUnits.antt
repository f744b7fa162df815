-- What is kept of a context's units stays the definition's.
use Rattle.std.proofs.Common.{◌≡◌, ◌⊎◌, inl, inr, ℕ, List, [], ◌∷◌, map, All, slice_get, None, Ok, refl, sym, ap, subst}
use Rattle.std.proofs.lemmas.List.Elements.{All-nil, All-cons}
use Rattle.addr2line_lookups.specs.DwarfFiles.{DwarfFile, supplement}
use Rattle.addr2line_lookups.specs.Contexts.{units_of_supplement}
use Rattle.addr2line_lookups.specs.UnitFacts.{UnitFacts}
use Rattle.addr2line_lookups.specs.EntryReferences.{KnownUnits}
use Rattle.addr2line_lookups.specs.ContextUnits.{ordered_ranges}
use Rattle.addr2line_lookups.specs.ResolvedUnits.{ResolvedUnit, AnsweredUnit, value_of_unit, plain_unit, KeepNoFunctions, new_units}
use Rattle.addr2line_lookups.specs.KeptUnits.{KeepMoreFunctions}
use Rattle.addr2line_lookups.specs.Preloads.{load_at}
use Rattle.addr2line_lookups.specs.PassedUnits.{Pass, PassLoads, PassedAreKept}
use Rattle.addr2line_lookups.specs.FramePlaces.{frames_of_answered}
use Rattle.addr2line_lookups.specs.UnitLookups.{unit_of_answered}
use Rattle.addr2line_lookups.specs.AnsweredUnits.{AreOfFile}
use Rattle.addr2line_lookups.specs.KeptCalls.{known_among, HoldsCalls, HoldCalls, LeavesCalls}
use Rattle.addr2line_lookups.proofs.KeptLines.{same_plain}
use Rattle.addr2line_lookups.proofs.CallsLeft.{holds_nothing, same_known}
use Rattle.addr2line_lookups.proofs.PassedUnits.{pass_none, pass_same, loads_from, kept_none, kept_still}
use Rattle.addr2line_context.specs.Progresses.{IsIndexFor, PassFramesIn, PassUnitsIn, PassedAreKeptIn}
use Rattle.addr2line_context.specs.KeptContexts.{HoldsUnits}
use Rattle.addr2line_context.specs.declared.progress.Progress.{Progress}
use Rattle.addr2line_context.proofs.NewContexts.{new_of_file}
use Rattle.addr2line_lookups.proofs.UnitsInOrder.{supplement_in_order}
use Rattle.addr2line_context.proofs.ContextParts.{context_in_order}

-- ---- how far lookups came

module _ {A : Type 0} (ask : KnownUnits → AnsweredUnit → A) (nothing : A) (s : List UnitFacts) (a from : ℕ) where
  abbrev PassIn : List ResolvedUnit → Type 0
  PassIn us =
      Pass (ask (known_among us s)) nothing (map value_of_unit us) a from (ordered_ranges (map plain_unit us))

  -- where the units that are decided stay the same
  pass_left : (us vs : List ResolvedUnit) → map plain_unit vs ≡ map plain_unit us
      → ((n : ℕ) → load_at (map value_of_unit us) n ≡ None
      → slice_get (map value_of_unit vs) n ≡ slice_get (map value_of_unit us) n)
      → PassIn us → PassIn vs
  pass_left us vs plain same pass =
      let known = known_among us s in
      let values = map value_of_unit vs in
      subst (λ k. Pass (ask k) nothing values a from (ordered_ranges (map plain_unit vs)))
      (sym (same_known us vs s plain))
      (subst (λ units. Pass (ask known) nothing values a from (ordered_ranges units)) (sym plain)
      (pass_same (ask known) nothing (map value_of_unit us) a (ordered_ranges (map plain_unit us)) from pass values
      same))

  pass_first : (us : List ResolvedUnit) → from ≡ 0 → PassIn us
  pass_first us first =
      let ordered = ordered_ranges (map plain_unit us) in
      subst (λ n. Pass (ask (known_among us s)) nothing (map value_of_unit us) a n ordered) (sym first)
      (pass_none (ask (known_among us s)) nothing (map value_of_unit us) a ordered)

-- functions of units that were passed
module _ (a from : ℕ) where
  keeps_in : (us vs : List ResolvedUnit) → map plain_unit vs ≡ map plain_unit us
      → PassedAreKept vs a from (ordered_ranges (map plain_unit us)) → PassedAreKeptIn vs a from
  keeps_in us vs plain =
      subst (λ units. PassedAreKept vs a from (ordered_ranges units)) (sym plain)

  -- those that are kept are kept still
  keeps_left : (us vs : List ResolvedUnit) → map plain_unit vs ≡ map plain_unit us → KeepMoreFunctions us vs
      → PassedAreKeptIn us a from → PassedAreKeptIn vs a from
  keeps_left us vs plain more kept =
      keeps_in us vs plain (kept_still a (ordered_ranges (map plain_unit us)) us vs from more kept)

  pub keeps_first : (us : List ResolvedUnit) → from ≡ 0 → PassedAreKeptIn us a from
  keeps_first us first =
      subst (PassedAreKeptIn us a) (sym first) (kept_none a (ordered_ranges (map plain_unit us)) us)

-- an index that holds for the address of a lookup holds for another address, or is the first
pub pass_for : (P : ℕ → ℕ → Type 0) (p : Progress) (a index : ℕ) → P a 0 → P p.probe p.index
    → IsIndexFor p a index → P a index
pass_for P p a index none last (inl first) = subst (P a) (sym first) none
pass_for P p a index none last (inr same) = subst (P a) (sym same.1) (subst (λ b. P b p.index) same.0 last)

pub frames_first : (s : List UnitFacts) (us : List ResolvedUnit) (a index : ℕ) → index ≡ 0 → PassFramesIn s us a index
frames_first s us a index first = pass_first (λ known. frames_of_answered known a) (Ok []) s a index us first

pub units_first : (s : List UnitFacts) (us : List ResolvedUnit) (a index : ℕ) → index ≡ 0 → PassUnitsIn s us a index
units_first s us a index first = pass_first (λ known. unit_of_answered known a) None s a index us first

-- the loads from where the last lookups came
module _ (file : DwarfFile) (s : List UnitFacts) (us : List ResolvedUnit) {frames unit : Progress}
    (holds : HoldsUnits file s us frames unit) (a index : ℕ) where
  abbrev Loads : ℕ → ℕ → Type 0
  Loads b n = PassLoads (map value_of_unit us) b n (ordered_ranges (map plain_unit us))

  pub loads_pending : IsIndexFor frames a index ⊎ IsIndexFor unit a index → Loads a index
  loads_pending (inl h) =
      pass_for Loads frames a index refl
      (loads_from (frames_of_answered (known_among us s) frames.probe) (Ok []) (map value_of_unit us) frames.probe
      (ordered_ranges (map plain_unit us)) frames.index holds.pass_frames) h
  loads_pending (inr h) =
      pass_for Loads unit a index refl
      (loads_from (unit_of_answered (known_among us s) unit.probe) None (map value_of_unit us) unit.probe
      (ordered_ranges (map plain_unit us)) unit.index holds.pass_units) h

-- ---- after a call

-- one that leaves the units' values
pub holds_calls : (file : DwarfFile) (s : List UnitFacts) (us vs : List ResolvedUnit) (f u : Progress)
    → map value_of_unit vs ≡ map value_of_unit us → AreOfFile file (map value_of_unit vs)
    → HoldCalls (known_among vs s) vs → PassFramesIn s us f.probe f.index → PassUnitsIn s us u.probe u.index
    → PassedAreKept vs f.probe f.index (ordered_ranges (map plain_unit us))
    → PassedAreKept vs u.probe u.index (ordered_ranges (map plain_unit us)) → HoldsUnits file s vs f u
holds_calls file s us vs f u same of_file calls pass_frames pass_units frames_kept units_kept =
    let plain = same_plain vs us same in
    let decided : (n : ℕ) → load_at (map value_of_unit us) n ≡ None
    → slice_get (map value_of_unit vs) n ≡ slice_get (map value_of_unit us) n =
    λ n none. ap (λ l. slice_get l n) same in
    record {
      are_of_file = of_file;
      calls_are_kept = calls;
      pass_frames =
          pass_left (λ known. frames_of_answered known f.probe) (Ok []) s f.probe f.index us vs plain decided
          pass_frames;
      pass_units =
          pass_left (λ known. unit_of_answered known u.probe) None s u.probe u.index us vs plain decided pass_units;
      frames_are_kept = keeps_in f.probe f.index us vs plain frames_kept;
      units_are_kept = keeps_in u.probe u.index us vs plain units_kept;
    }

module _ (file : DwarfFile) (s : List UnitFacts) (us vs : List ResolvedUnit) {frames unit : Progress}
    (before : HoldsUnits file s us frames unit) where
  calls_after : map plain_unit vs ≡ map plain_unit us → LeavesCalls us vs → HoldCalls (known_among vs s) vs
  calls_after same leaves =
      subst (λ known. HoldCalls known vs) (sym (same_known us vs s same))
      (leaves (known_among us s) before.calls_are_kept)

  -- one that leaves the units as they are in their file, and those that are decided as they are
  pub holds_after : map plain_unit vs ≡ map plain_unit us → AreOfFile file (map value_of_unit vs) → LeavesCalls us vs
      → KeepMoreFunctions us vs
      → ((n : ℕ) → load_at (map value_of_unit us) n ≡ None
      → slice_get (map value_of_unit vs) n ≡ slice_get (map value_of_unit us) n)
      → HoldsUnits file s vs frames unit
  holds_after same of_file leaves more decided = record {
    are_of_file = of_file;
    calls_are_kept = calls_after same leaves;
    pass_frames =
        pass_left (λ known. frames_of_answered known frames.probe) (Ok []) s frames.probe frames.index us vs same
        decided before.pass_frames;
    pass_units =
        pass_left (λ known. unit_of_answered known unit.probe) None s unit.probe unit.index us vs same decided
        before.pass_units;
    frames_are_kept = keeps_left frames.probe frames.index us vs same more before.frames_are_kept;
    units_are_kept = keeps_left unit.probe unit.index us vs same more before.units_are_kept;
  }

  -- one that leaves their values
  pub holds_same : map value_of_unit vs ≡ map value_of_unit us → LeavesCalls us vs → KeepMoreFunctions us vs
      → HoldsUnits file s vs frames unit
  holds_same same leaves more =
      holds_after (same_plain vs us same) (subst (AreOfFile file) (sym same) before.are_of_file) leaves more
      (λ n decided. ap (λ l. slice_get l n) same)

  -- one that answers loads, after which lookups begin anew
  pub holds_anew : map plain_unit vs ≡ map plain_unit us → AreOfFile file (map value_of_unit vs) → LeavesCalls us vs
      → (f u : Progress) → f.index ≡ 0 → u.index ≡ 0 → HoldsUnits file s vs f u
  holds_anew same of_file leaves f u frames_are unit_is = record {
    are_of_file = of_file;
    calls_are_kept = calls_after same leaves;
    pass_frames = frames_first s vs f.probe f.index frames_are;
    pass_units = units_first s vs u.probe u.index unit_is;
    frames_are_kept = keeps_first f.probe f.index vs frames_are;
    units_are_kept = keeps_first u.probe u.index vs unit_is;
  }

-- units of which no functions are kept
holds_none : (known : KnownUnits) (us : List ResolvedUnit) → KeepNoFunctions us → All (HoldsCalls known) us
holds_none known [] h = All-nil (HoldsCalls known)
holds_none known (u ∷ us) h =
    All-cons (HoldsCalls known) u us (holds_nothing known u h.0.1) (holds_none known us h.1)

pub holds_new : (file : DwarfFile) (s : List UnitFacts) (us : List ResolvedUnit)
    → new_units file ≡ Ok (map value_of_unit us) → units_of_supplement (supplement file) ≡ Ok s → KeepNoFunctions us
    → (f u : Progress) → f.index ≡ 0 → u.index ≡ 0 → HoldsUnits file s us f u
holds_new file s us made made_supplement none f u frames_are unit_is = record {
  are_of_file = new_of_file file us made;
  calls_are_kept = record {
    calls = holds_none (known_among us s) us none;
    order = record {
      units = context_in_order file us made;
      supplement_units = supplement_in_order (supplement file) s made_supplement;
    };
  };
  pass_frames = frames_first s us f.probe f.index frames_are;
  pass_units = units_first s us u.probe u.index unit_is;
  frames_are_kept = keeps_first f.probe f.index us frames_are;
  units_are_kept = keeps_first u.probe u.index us unit_is;
}
