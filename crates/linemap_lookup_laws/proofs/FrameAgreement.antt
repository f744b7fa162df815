-- Frames that agree with a table's have their text.
use Rattle.std.proofs.Common.{◌≡◌, List, [], ◌∷◌, ◌++◌, All, Option, Some, None, option_map, refl, ap, ◌∙◌}
use Rattle.std.specs.Prelude.{flat_map, if◌then◌else◌, option_and_then}
use Rattle.std.specs.Str.Lossy.{utf8_lossy}
use Rattle.std.proofs.lemmas.List.Elements.{All-head, All-tail}
use Rattle.linemap_image.specs.CallAgreement.{OneByOne}
use Rattle.linemap_image.specs.LookupFrameLaws.{FrameAgrees}
use Rattle.linemap_image.specs.Meaning as table
use Rattle.linemap_lookup.specs.FrameTexts.{frame_line, frame_text, frames_text, function_text, inlined_by, name_text, outer_frames_text, symbol_of_last}
use Rattle.linemap_lookup.specs.Frames.{Frame, FunctionName}
use Rattle.linemap_lookup.specs.Options.{Options}
use Rattle.linemap_lookup_laws.specs.TableTexts.{table_caller_text, table_frame_text, table_frames_text, table_name_text}
use Rattle.linemap_lookup_laws.proofs.FrameLanguages.{IsOfNoLanguage}

module _ (o : Options) where
  name_agrees : (f : Option FunctionName)
      → option_and_then (λ (n : FunctionName). n.language) f ≡ None
      → function_text o f ≡ table_name_text o (option_map (λ (n : FunctionName). n.name.bytes) f)
  name_agrees None none = refl
  name_agrees (Some n) none = ap (λ language. name_text o language (utf8_lossy n.name.bytes)) none

  frame_agrees : (f : table.Frame) (g : Frame) → FrameAgrees f g → IsOfNoLanguage g
      → frame_text o None g ≡ table_frame_text o f
  frame_agrees f g agrees none =
      ap (λ name. frame_line o name g.location) (name_agrees g.function none ∙ ap (table_name_text o) agrees.name_is)
      ∙ ap (frame_line o (table_name_text o f.function)) agrees.location_is

  no_symbol : (fs : List Frame) → symbol_of_last None fs ≡ None
  no_symbol [] = refl
  no_symbol (f ∷ fs) = refl

  first_agrees : (f : table.Frame) (g : Frame) (gs : List Frame) → FrameAgrees f g → IsOfNoLanguage g
      → frame_text o (symbol_of_last None gs) g ≡ table_frame_text o f
  first_agrees f g gs agrees none =
      ap (λ symbol. frame_text o symbol g) (no_symbol gs) ∙ frame_agrees f g agrees none

  callers_agree : (fs : List table.Frame) (gs : List Frame) → OneByOne FrameAgrees fs gs → All IsOfNoLanguage gs
      → outer_frames_text o None gs ≡ flat_map (table_caller_text o) fs
  callers_agree [] [] agree none = refl
  callers_agree [] (g ∷ gs) agree none = absurd agree
  callers_agree (f ∷ fs) [] agree none = absurd agree
  callers_agree (f ∷ fs) (g ∷ gs) agree none =
      ap (λ text. (inlined_by o ++ text) ++ outer_frames_text o None gs)
      (first_agrees f g gs agree.0 (All-head IsOfNoLanguage g gs none))
      ∙ ap (λ text. table_caller_text o f ++ text) (callers_agree fs gs agree.1 (All-tail IsOfNoLanguage g gs none))

  pub frames_agree : (fs : List table.Frame) (gs : List Frame) → OneByOne FrameAgrees fs gs → All IsOfNoLanguage gs
      → frames_text o None gs ≡ table_frames_text o fs
  frames_agree [] [] agree none = refl
  frames_agree [] (g ∷ gs) agree none = absurd agree
  frames_agree (f ∷ fs) [] agree none = absurd agree
  frames_agree (f ∷ fs) (g ∷ gs) agree none =
      ap (λ text. text ++ (if o.inlines then outer_frames_text o None gs else []))
      (first_agrees f g gs agree.0 (All-head IsOfNoLanguage g gs none))
      ∙ ap (λ text. table_frame_text o f ++ (if o.inlines then text else []))
      (callers_agree fs gs agree.1 (All-tail IsOfNoLanguage g gs none))
