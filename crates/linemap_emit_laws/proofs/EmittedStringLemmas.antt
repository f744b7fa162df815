-- The texts that were emitted are found in the string section.
use Rattle.std.proofs.Common.{◌≡◌, ℕ, ◌+◌, Bool, true, false, List, [], ◌∷◌, All, length, refl, sym, ap, subst, ◌∙◌, append-nil}
use Rattle.std.specs.List.{list_any}
use Rattle.std.proofs.lemmas.List.Elements.{All-nil, All-head, All-tail, All-push}
use Rattle.linemap_emit_units.specs.Encoding.{Encoding}
use Rattle.linemap_emit_units.specs.SectionReads.{string_at}
use Rattle.linemap_emit_units.specs.StringSections.{same_bytes, IsText as HasNoZero, with_text, text_index, offset_of, section_of}
use Rattle.linemap_emit_units.proofs.TextTableLemmas.{with_text-again, with_text-new}
use Rattle.linemap_emit_units.proofs.SectionTexts.{text_at_index, stays, read_again}
use Rattle.linemap_emit_units.specs.DwarfFiles.{DwarfFile}
use Rattle.linemap_emit_units.specs.TableParts.{Calls, no_calls, more_calls, FunctionPart, UnitPart}
use Rattle.linemap_emit_units.specs.InlinedNames.{called_names, inlined_names, with_texts}
use Rattle.linemap_emit_units.proofs.InlinedNameLemmas.{unit_texts}
use Rattle.linemap_emit_units.specs.UnitEmission.{EmittedUnit, has_calls, with_end_of_children, with_abstract_functions, with_call, with_calls, with_function_entry, with_function, with_functions, with_unit_entry, with_unit, with_entry, with_name, text_offset, CanEmitFunctions, CanEmitUnit}
use Rattle.linemap_emit_units.specs.Entry.TheVariants.{AbstractFunction}
use Rattle.linemap_emit_calls_laws.specs.RecordedFunctions.{HasTextAt}
use Rattle.linemap_emit_units.specs.TableEmission.{EmittedTable, number_of, before_entries, with_emitted_unit, with_emitted_units}
use Rattle.linemap_emit_units.specs.FittingUnits.{AllUnitsFit}
use Rattle.linemap_emit_laws.proofs.EmissionGrowth.{TextsStay}
use Rattle.linemap_emit_units.specs.BytesAt.{bytes_at}

-- ---- no text holds a zero byte

text_holds : (texts : List (List ℕ)) (t : List ℕ) → All HasNoZero texts → HasNoZero t
    → All HasNoZero (with_text texts t)
text_holds texts t all is_text = by (list_any (same_bytes t) texts) refl
  where
    by : (b : Bool) → list_any (same_bytes t) texts ≡ b → All HasNoZero (with_text texts t)
    by true there = subst (All HasNoZero) (sym (with_text-again texts t there)) all
    by false new = subst (All HasNoZero) (sym (with_text-new texts t new)) (All-push HasNoZero texts t all is_text)

closed_holds : (b : Bool) (a : EmittedUnit) → All HasNoZero a.texts → All HasNoZero (with_end_of_children b a).texts
closed_holds true a all = all
closed_holds false a all = all

calls_hold : (number : ℕ → ℕ) (names : List (List ℕ)) (cs : Calls) (a : EmittedUnit) → All HasNoZero a.texts
    → All HasNoZero (with_calls number names cs a).texts
unfolding with_calls
calls_hold number names no_calls a all = all
calls_hold number names (more_calls site inner others) a all =
    let head = with_call number names (has_calls inner) site a in
    let within = with_calls number names inner head in
    calls_hold number names others (with_end_of_children (has_calls inner) within)
    (closed_holds (has_calls inner) within (calls_hold number names inner head all))

functions_hold : (size files : ℕ) (number : ℕ → ℕ) (names : List (List ℕ)) (fs : List FunctionPart) (a : EmittedUnit)
    → CanEmitFunctions size files fs → All HasNoZero a.texts → All HasNoZero (with_functions number names fs a).texts
functions_hold size files number names [] a can all = all
functions_hold size files number names (f ∷ fs) a can all =
    let head = with_function_entry f a in
    functions_hold size files number names fs (with_function number names f a) can.2
    (closed_holds (has_calls f.calls) (with_calls number names f.calls head)
    (calls_hold number names f.calls head (text_holds a.texts f.name all can.0.0)))

abstract_hold : (names : List (List ℕ)) (a : EmittedUnit) → All HasNoZero names → All HasNoZero a.texts
    → All HasNoZero (with_abstract_functions names a).texts
abstract_hold [] a are all = all
abstract_hold (name ∷ names) a are all =
    abstract_hold names (with_entry (AbstractFunction (text_offset name a)) (with_name name a))
    (All-tail HasNoZero name names are) (text_holds a.texts name all (All-head HasNoZero name names are))

all_texts_hold : (texts ts : List (List ℕ)) → All HasNoZero texts → All HasNoZero ts
    → All HasNoZero (with_texts texts ts)
all_texts_hold texts [] all are = all
all_texts_hold texts (t ∷ ts) all are =
    all_texts_hold (with_text texts t) ts (text_holds texts t all (All-head HasNoZero t ts are))
    (All-tail HasNoZero t ts are)

unit_holds : (size : ℕ) (number : ℕ → ℕ) (line_program : ℕ) (u : UnitPart) (a : EmittedUnit) → CanEmitUnit size u
    → All HasNoZero a.texts
    → All HasNoZero (with_unit number line_program u a).texts
unit_holds size number line_program u a can all =
    let root = with_unit_entry line_program u a in
    functions_hold size (length u.files) number (inlined_names u) u.functions
    (with_abstract_functions (inlined_names u) root) can.2
    (abstract_hold (inlined_names u) root
    (all_texts_hold [] (called_names u.functions) (All-nil HasNoZero) (unit_texts size u can))
    (text_holds (with_text a.texts u.name) u.directory (text_holds a.texts u.name all can.1.0) can.0))

pub all_hold : (e : Encoding) (is_big : Bool) (us : List UnitPart) (a : EmittedTable) → AllUnitsFit e is_big us a
    → All HasNoZero a.texts → All HasNoZero (with_emitted_units e is_big us a).texts
unfolding with_emitted_units AllUnitsFit
all_hold e is_big [] a fit all = all
all_hold e is_big (u ∷ us) a fit all =
    all_hold e is_big us (with_emitted_unit e is_big u a) fit.1
    (unit_holds e.address_size (number_of e u a) (length a.lines) u (before_entries e is_big a) fit.0.can_emit all)

-- ---- a text that is added is in the section

-- texts stay when another is added
pub text_stays : (texts : List (List ℕ)) (t : List ℕ) → TextsStay texts (with_text texts t)
text_stays texts t i u there = stays texts t u i there

pub text_is : (s : DwarfFile) (is_big : Bool) (first : ℕ) (all texts : List (List ℕ)) (t : List ℕ)
    → s.sections.debug_str ≡ bytes_at is_big first (section_of all) → All HasNoZero all
    → TextsStay (with_text texts t) all
    → HasTextAt s (offset_of (with_text texts t) (text_index texts t)) t
text_is s is_big first all texts t str no_zeros stay =
    let place = text_index texts t in
    let there = stay place t (text_at_index texts t) in
    record {
      found = bytes_at is_big (first + offset_of all place) t;
      there = ap (λ n. string_at n s.sections.debug_str) (sym there.1) ∙ ap (string_at (offset_of all place)) str
          ∙ read_again all place t [] (bytes_at is_big first (section_of all)) no_zeros there.0
          (sym (append-nil (section_of all)));
      bytes = refl;
    }
