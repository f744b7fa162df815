-- The frames that are found over sections that say what a table says.
use Rattle.std.proofs.Common.{◌≡◌, ℕ, ◌+◌, Bool, false, List, [], ◌∷◌, All, Contains, length, map, Option, Some, None, Result, Ok, refl, sym, ap, subst, ◌∙◌}
use Rattle.std.specs.List.{list_any}
use Rattle.std.proofs.lemmas.Bool.{or_parts}
use Rattle.std.proofs.lemmas.List.Elements.{All-head, All-tail, All-contains_itself}
use Rattle.addr2line_spec.specs.Pairs.{covering_pairs}
use Rattle.addr2line_spec.specs.SuspensionLaws.{HasNoSplitPart, frames_of_itself}
use Rattle.addr2line_spec.proofs.LookupsWithoutLoads.{all_covering, without_loads}
use Rattle.linemap_emit_units.specs.Error.{Error}
use Rattle.linemap_emit_units.specs.DwarfFileType.TheVariants.{Main}
use Rattle.linemap_emit_units.specs.Encoding.{Encoding}
use Rattle.linemap_emit_units.specs.Results.{and_then}
use Rattle.linemap_emit_units.specs.DwarfFiles.{DwarfFile}
use Rattle.linemap_emit_units.specs.UnitFacts.{UnitFacts, in_file}
use Rattle.linemap_emit_units.specs.Lines.{Lines, sequences_of_rows}
use Rattle.linemap_emit_units.specs.Contexts.{Context, FileContext, ranges_of}
use Rattle.linemap_emit_units.specs.TableParts.{UnitPart}
use Rattle.linemap_emit_units.specs.Meaning as table
use Rattle.linemap_emit_units.specs.Conditions.{has_no_range, has_bad_line_or_column, IsSound}
use Rattle.linemap_emit_units.specs.Rule.TheVariants.{NoRange, LineOrColumn}
use Rattle.linemap_emit_units.proofs.SoundUnits.{sound_rule}
use Rattle.linemap_emit_units.specs.Entry.{Entry}
use Rattle.linemap_emit_units.specs.EmittedUnits.{IsWritten, unit_for, spelled_unit}
use Rattle.linemap_emit_units.specs.LookupAgreement.{lookup_range, UnitAgrees}
use Rattle.linemap_emit_calls_laws.specs.Frames.{Frame, FunctionAt, function_of_offset_if_any, frames_of}
use Rattle.linemap_emit_calls_laws.specs.FirstAnswers.{FirstAnswers, output}
use Rattle.linemap_emit_calls_laws.specs.Functions.{Function as FoundFunction, function_at}
use Rattle.linemap_emit_calls_laws.specs.InlinedCalls.{calls_of_function}
use Rattle.linemap_emit_calls_laws.specs.Lookups.{FunctionsUnit}
use Rattle.linemap_emit_calls_laws.specs.ContextNames.{known_units, holding_unit, naming_in}
use Rattle.linemap_emit_calls_laws.specs.CallAgreement.{OneByOne}
use Rattle.linemap_emit_calls_laws.specs.LookupFrameLaws.{FrameAgrees, UnitFramesAgree, UnitAnswerAgrees}
use Rattle.linemap_emit_calls_laws.specs.FunctionLaws.{FunctionsFound}
use Rattle.linemap_emit_calls_laws.proofs.AgreeingFunctions.{entries_meet}
use Rattle.linemap_emit_calls_laws.proofs.AgreeingFrames.{frames_meet}
use Rattle.linemap_emit_calls_laws.proofs.TableFrames.{tables_meet}
use Rattle.linemap_emit_calls_laws.proofs.UnitFunctionsFound.{functions_found}
use Rattle.linemap_emit_laws.specs.RecordedTables.{RecordsUnit, RecordsUnits}
use Rattle.linemap_emit_laws.specs.RecordedTableLaws.{FramesFound, SameFrame}
use Rattle.linemap_emit_laws.proofs.RecordedUnitFacts.{facts_recorded}
use Rattle.linemap_emit_laws.proofs.RecordedContexts.{root_entry, unit_agrees, agreeing_units, all_units}

-- ---- two lists that agree with a third

frame_alike : (f : table.Frame) (g h : Frame) → FrameAgrees f g → FrameAgrees f h → SameFrame g h
frame_alike f g h x y = record {
  same_name = x.name_is ∙ sym y.name_is;
  same_place = x.location_is ∙ sym y.location_is;
}

pub frames_alike : (fs : List table.Frame) (gs hs : List Frame) → OneByOne FrameAgrees fs gs
    → OneByOne FrameAgrees fs hs → OneByOne SameFrame gs hs
frames_alike [] [] [] x y = tt
frames_alike [] [] (h ∷ hs) x y = absurd y
frames_alike [] (g ∷ gs) hs x y = absurd x
frames_alike (f ∷ fs) [] hs x y = absurd x
frames_alike (f ∷ fs) (g ∷ gs) [] x y = absurd y
frames_alike (f ∷ fs) (g ∷ gs) (h ∷ hs) x y =
    (frame_alike f g h x.0 y.0, frames_alike fs gs hs x.1 y.1)

-- ---- units

module _ (e : Encoding) (is_big : Bool) (s : DwarfFile) (us : List UnitPart) (found : Context)
    (sound : IsSound us) (w : IsWritten e) (main : s.sections.file_type ≡ Main) where
  abbrev over_file : FileContext
  over_file = record { file = s; context = found }

  -- the facts of a unit with some entries
  abbrev facts_with : (u : UnitPart) (xs : List Entry) → RecordsUnit e s u xs → ℕ → ℕ → List Entry → UnitFacts
  facts_with u xs say offset first ys =
      facts_recorded e s (unit_for e is_big offset first ys) (root_entry e s u xs say) say.is_name.found
      say.is_directory.found say.header

  abbrev unit_with : UnitFacts → FunctionsUnit
  unit_with facts = record { is_split = false; unit = in_file s facts }

  -- its functions are found
  unit_functions : (u : UnitPart) (xs : List Entry) (say : RecordsUnit e s u xs) (offset first : ℕ)
      → has_no_range u ≡ false → has_bad_line_or_column u ≡ false
      → FunctionsFound say.number u.functions (in_file s (facts_with u xs say offset first xs))
      (naming_in over_file (unit_with (facts_with u xs say offset first xs)))
  unit_functions u xs say offset first some numbers =
      subst (λ (ys : List Entry). FunctionsFound say.number u.functions (in_file s
      (facts_with u xs say offset first ys))
      (naming_in over_file (unit_with (facts_with u xs say offset first ys)))) (sym say.entries_are)
      (functions_found e is_big s offset first say.name say.directory say.line_program say.range_list say.others
      (facts_with u xs say offset first (root_entry e s u xs say ∷ say.others)).bases (Some say.is_name.found)
      (Some say.is_directory.found) (Some say.header) (known_units over_file)
      (holding_unit (unit_with (facts_with u xs say offset first
      (root_entry e s u xs say ∷ say.others)))) say.number u w
      main refl refl refl some numbers say.functions_are)

  -- its frames are the table's
  unit_frames : (u : UnitPart) (xs : List Entry) (say : RecordsUnit e s u xs) (offset first a : ℕ) → Contains us u
      → has_no_range u ≡ false → has_bad_line_or_column u ≡ false
      → UnitFramesAgree u a
      (frames_of_itself over_file (naming_in over_file) (unit_agrees e is_big s u xs say offset first) a)
  unit_frames u xs say offset first a there some numbers =
      let facts = facts_with u xs say offset first xs in
      let unit = in_file s facts in
      let naming = naming_in over_file (unit_with facts) in
      let read = unit_functions u xs say offset first some numbers in
      let l : Lines = record { sequences = sequences_of_rows say.rows; files = say.files } in
      let agrees : UnitAgrees u (map lookup_range u.ranges) (Ok l) = record {
        ranges_agree = refl;
        number = say.number;
        rows = say.rows;
        files = say.files;
        rows_agree = say.rows_agree;
        files_numbered = say.files_numbered;
        lines_are = refl;
      } in
      let meet = entries_meet say.number (calls_of_function unit naming) us u read.found a sound there read.agree in (
        frames_of None l a meet.0,
        ap (λ (q : Result (List FoundFunction) Error). and_then
            (and_then q (λ fs. function_of_offset_if_any (calls_of_function unit naming) (function_at fs a)))
            (λ f. Ok (frames_of None l a f))) read.are_functions
            ∙ ap (λ (q : Result (Option FunctionAt) Error). and_then q (λ f. Ok (frames_of None l a f))) meet.1,
        frames_meet us u (map lookup_range u.ranges) l agrees None meet.0 a sound there meet.2,
      )

  -- those of each unit
  all_frames : (vs : List UnitPart) (all : List (List Entry)) (say : RecordsUnits e s vs all) (offset first a : ℕ)
      → All (Contains us) vs → list_any has_no_range vs ≡ false → list_any has_bad_line_or_column vs ≡ false
      → OneByOne (UnitAnswerAgrees ranges_of (frames_of_itself over_file (naming_in over_file)) a) vs
      (agreeing_units e is_big s vs all say offset first)
  unfolding agreeing_units
  all_frames [] [] say offset first a there some numbers = tt
  all_frames [] (x ∷ xs) say offset first a there some numbers = absurd say
  all_frames (u ∷ vs) [] say offset first a there some numbers = absurd say
  all_frames (u ∷ vs) (x ∷ xs) say offset first a there some numbers =
      let some_parts = or_parts (has_no_range u) (list_any has_no_range vs) some in
      let number_parts = or_parts (has_bad_line_or_column u) (list_any has_bad_line_or_column vs) numbers in (
        (
          refl,
          unit_frames u x say.0 offset first a (All-head (Contains us) u vs there) some_parts.0 number_parts.0,
        ),
        all_frames vs xs say.1 (offset + length (spelled_unit e is_big x)) (first + length (spelled_unit e is_big x)) a
            (All-tail (Contains us) u vs there) some_parts.1 number_parts.1,
      )

-- ---- the context

-- no unit has its functions elsewhere
pub none_split : (e : Encoding) (is_big : Bool) (s : DwarfFile) (us : List UnitPart) (all : List (List Entry))
    (say : RecordsUnits e s us all) (offset first : ℕ)
    → All HasNoSplitPart (agreeing_units e is_big s us all say offset first)
none_split e is_big s = all_units e is_big s HasNoSplitPart (λ u xs say offset first. refl)

pub frames_again : (e : Encoding) (is_big : Bool) (s : DwarfFile) (us : List UnitPart) (all : List (List Entry))
    (say : RecordsUnits e s us all) (offset first : ℕ) (answers : FirstAnswers) (a : ℕ) → IsSound us → IsWritten e
    → s.sections.file_type ≡ Main
    → FramesFound (record {
      file = s;
      context = record { units = agreeing_units e is_big s us all say offset first; supplement_units = [] };
    }) us answers a
frames_again e is_big s us all say offset first answers a sound w main =
    let units = agreeing_units e is_big s us all say offset first in
    let found : Context = record { units = units; supplement_units = [] } in
    let c : FileContext = record { file = s; context = found } in
    let meet =
    tables_meet ranges_of (frames_of_itself c (naming_in c)) us units a sound
    (all_frames e is_big s us found sound w main us all say offset first a (All-contains_itself us)
    (sound_rule us NoRange sound) (sound_rule us LineOrColumn sound)) in
    record {
      list = meet.0;
      are_frames =
          without_loads c (naming_in c) answers a (covering_pairs ranges_of units a)
          (all_covering ranges_of HasNoSplitPart units a (none_split e is_big s us all say offset first))
          ∙ ap output meet.1;
      agree = meet.2;
    }
