-- A unit more, and what holds before it.
use Rattle.std.proofs.Common.{◌≡◌, ℕ, ◌+◌, ◌<◌, ◌^◌, arith, Bool, true, false, List, [], ◌∷◌, ◌++◌, length, Result, Ok, Err, refl, sym, ap, subst, ◌∙◌, append-nil}
use Rattle.std.specs.Prelude.{All, IsOk}
use Rattle.std.proofs.lemmas.Grind.{flat_map-append}
use Rattle.linemap_emit_fits.specs.Encoding.{Encoding}
use Rattle.linemap_emit_fits.specs.OutputBytes.{WriterContents, append}
use Rattle.linemap_table.specs.TableParts.{Calls, no_calls, more_calls, FunctionPart, UnitPart}
use Rattle.linemap_emit_fits.specs.Entry.{Entry}
use Rattle.linemap_emit_fits.specs.EmittedEntries.{AllFit, attributes_of, spelled_declarations}
use Rattle.linemap_emit_fits.specs.EmittedSections.{sections_of}
use Rattle.linemap_emit_fits.specs.StringSections.{section_of}
use Rattle.linemap_emit_fits.specs.EmittedUnits.{IsWritten, spelled_unit_body, spelled_unit, spelled_units}
use Rattle.linemap_emit_fits.specs.Entry.TheVariants.{AbstractFunction}
use Rattle.linemap_emit_fits.specs.InlinedNames.{inlined_names}
use Rattle.linemap_emit_fits.specs.UnitEmission.{EmittedUnit, CanEmitUnit, text_offset, with_name, with_entry, has_calls, with_end_of_children, with_abstract_functions, with_call, with_calls, with_function_entry, with_function, with_functions, with_unit_entry, with_unit, without_entries}
use Rattle.linemap_emit_fits.specs.TableEmission.{EmittedTable, no_units, number_of, emitted_table, before_entries, after_entries, with_emitted_unit, with_emitted_units}
use Rattle.linemap_emit_fits.specs.FittingUnits.{UnitFits, AllUnitsFit}
use Rattle.linemap_emit_fits.specs.WriteError.{Error}
use Rattle.linemap_emit_fits.specs.RowPieces.{IsBuildable}
use Rattle.linemap_emit_fits.specs.NumberBytes.{constant_of}
use Rattle.linemap_emit_fits.specs.FileId.{FileId}
use Rattle.linemap_emit_fits.specs.BuiltPrograms.{Program, HasItsTexts, program_bytes}
use Rattle.linemap_emit_fits.specs.EmittedRows.{emitted_rules, AllOrdered}
use Rattle.linemap_emit_fits.specs.EmittedFiles.{HasTableTexts, first_unit_files, unit_files, unit_file_ids, place_in, file_number}
use Rattle.linemap_emit_fits.specs.EmittedPrograms.{line_program, line_program_bytes, bytes_if_any}
use Rattle.linemap_emit_fits.proofs.EmittedRowsBuilt.{sequences_ordered}
use Rattle.linemap_emit_fits.proofs.PlacedFiles.{place_is_low}
use Rattle.linemap_emit_fits.proofs.BuiltUnits.{ids_counted}
use Rattle.linemap_emit_fits.proofs.UnitProgramsRead.{program_known}
use Rattle.linemap_emit_laws.proofs.EmittedProgramLemmas.{buildable}
use Rattle.linemap_emit.specs.declared.table_emitter.TableEmitter.{TableEmitter}
use Rattle.linemap_emit.specs.TableEmitterSteps.{bytes_in_order, unit_after_entries, with_unit_added, HoldsTable, CanAddUnit, sections_in}

-- ---- what entries leave as it is

-- the encoding, and the order of the range lists' bytes
abbrev Keeps : EmittedUnit → EmittedUnit → Type 0
Keeps old new = (new.encoding ≡ old.encoding) × (new.ranges.is_big ≡ old.ranges.is_big)

keeps_then : (a b c : EmittedUnit) → Keeps a b → Keeps b c → Keeps a c
keeps_then a b c h k = (k.0 ∙ h.0, k.1 ∙ h.1)

closed_keeps : (b : Bool) (st : EmittedUnit) → Keeps st (with_end_of_children b st)
closed_keeps true st = (refl, refl)
closed_keeps false st = (refl, refl)

calls_keep : (number : ℕ → ℕ) (names : List (List ℕ)) (cs : Calls) (st : EmittedUnit)
    → Keeps st (with_calls number names cs st)
unfolding with_calls
calls_keep number names no_calls st = (refl, refl)
calls_keep number names (more_calls site inner others) st =
    let head = with_call number names (has_calls inner) site st in
    let within = with_calls number names inner head in
    let after = with_end_of_children (has_calls inner) within in
    let ended =
    keeps_then head within after (calls_keep number names inner head)
    (closed_keeps (has_calls inner) within) in
    let all =
    keeps_then head after (with_calls number names others after) ended
    (calls_keep number names others after) in
    (all.0, all.1)

functions_keep : (number : ℕ → ℕ) (names : List (List ℕ)) (fs : List FunctionPart) (st : EmittedUnit)
    → Keeps st (with_functions number names fs st)
functions_keep number names [] st = (refl, refl)
functions_keep number names (f ∷ fs) st =
    let head = with_function_entry f st in
    let within = with_calls number names f.calls head in
    let after = with_function number names f st in
    let ended =
    keeps_then head within after (calls_keep number names f.calls head) (closed_keeps (has_calls f.calls) within) in
    let all =
    keeps_then head after (with_functions number names fs after) ended
    (functions_keep number names fs after) in
    (all.0, all.1)

abstract_keep : (names : List (List ℕ)) (st : EmittedUnit) → Keeps st (with_abstract_functions names st)
abstract_keep [] st = (refl, refl)
abstract_keep (name ∷ names) st =
    let all = abstract_keep names (with_entry (AbstractFunction (text_offset name st)) (with_name name st)) in
    (all.0, all.1)

unit_keeps : (number : ℕ → ℕ) (line_program : ℕ) (u : UnitPart) (st : EmittedUnit)
    → Keeps st (with_unit number line_program u st)
unit_keeps number line_program u st =
    let root = with_unit_entry line_program u st in
    let named = with_abstract_functions (inlined_names u) root in
    let all =
    keeps_then root named (with_functions number (inlined_names u) u.functions named)
    (abstract_keep (inlined_names u) root)
    (functions_keep number (inlined_names u) u.functions named) in
    (all.0, all.1)

-- ---- the emitter after a unit

-- what is emitted, as the emitter holds it
abbrev emitter_of : Encoding → Bool → EmittedTable → TableEmitter
emitter_of e is_big st =
    record {
      encoding = e;
      lines = bytes_in_order is_big st.lines;
      line_strings = st.line_texts;
      info = bytes_in_order is_big (spelled_units e is_big st.units);
      emitter = before_entries e is_big st;
    }

emitter_as : (e : Encoding) (is_big : Bool) (st : EmittedTable) (s : TableEmitter) → HoldsTable e is_big st s
    → s ≡ emitter_of e is_big st
emitter_as e is_big st s h =
    ap (λ (x : Encoding). record s { encoding = x }) h.encoding_is
    ∙ ap (λ (x : WriterContents). record s { encoding = e; lines = x }) h.lines_are
    ∙ ap (λ (x : List (List ℕ)). record s {
      encoding = e;
      lines = bytes_in_order is_big st.lines;
      line_strings = x;
    }) h.line_texts_are
    ∙ ap (λ (x : WriterContents). record {
      encoding = e;
      lines = bytes_in_order is_big st.lines;
      line_strings = st.line_texts;
      info = x;
      emitter = s.emitter;
    }) h.units_are
    ∙ ap (λ (x : EmittedUnit). record {
      encoding = e;
      lines = bytes_in_order is_big st.lines;
      line_strings = st.line_texts;
      info = bytes_in_order is_big (spelled_units e is_big st.units);
      emitter = x;
    }) h.emitter_is

-- the units' bytes, with a unit more
units_more : (e : Encoding) (is_big : Bool) (us : List (List Entry)) (xs : List Entry)
    → spelled_units e is_big us ++ spelled_unit e is_big xs ≡ spelled_units e is_big (us ++ xs ∷ [])
units_more e is_big us xs =
    ap (λ ys. spelled_units e is_big us ++ ys) (sym (append-nil (spelled_unit e is_big xs)))
    ∙ sym (flat_map-append (spelled_unit e is_big) us (xs ∷ []))

-- without a unit's entries, the emitter is ready for the next unit's
before_next : (e : Encoding) (is_big : Bool) (x : EmittedUnit) → x.encoding ≡ e → x.ranges.is_big ≡ is_big
    → without_entries x
    ≡ record {
      encoding = e;
      texts = x.texts;
      ranges = record { bytes = x.ranges.bytes; is_big = is_big };
      entries = [];
    }
before_next e is_big x same order =
    ap (λ (y : Encoding). record { encoding = y; texts = x.texts; ranges = x.ranges; entries = [] }) same
    ∙ ap (λ (b : Bool). record {
      encoding = e;
      texts = x.texts;
      ranges = record { bytes = x.ranges.bytes; is_big = b };
      entries = [];
    }) order

next_holds : (e : Encoding) (is_big : Bool) (u : UnitPart) (st : EmittedTable)
    → HoldsTable e is_big (with_emitted_unit e is_big u st) (with_unit_added u (emitter_of e is_big st))
next_holds e is_big u st =
    let keeps = unit_keeps (number_of e u st) (length st.lines) u (before_entries e is_big st) in
    record {
      encoding_is = refl;
      lines_are = refl;
      line_texts_are = refl;
      units_are = ap (bytes_in_order is_big) (units_more e is_big st.units (after_entries e is_big u st).entries);
      emitter_is = before_next e is_big (after_entries e is_big u st) keeps.0 keeps.1;
    }

pub unit_added : (e : Encoding) (is_big : Bool) (u : UnitPart) (st : EmittedTable) (s t : TableEmitter)
    → HoldsTable e is_big st s → t ≡ with_unit_added u s → HoldsTable e is_big (with_emitted_unit e is_big u st) t
unit_added e is_big u st s t h is =
    subst (HoldsTable e is_big (with_emitted_unit e is_big u st))
    (sym (is ∙ ap (with_unit_added u) (emitter_as e is_big st s h))) (next_holds e is_big u st)

-- ---- what holds before a unit

-- its entries at hand are those after the units before it
entries_after : (u : UnitPart) (s : TableEmitter) (t : CanAddUnit u s)
    → after_entries s.encoding t.is_big u t.before ≡ unit_after_entries u s
entries_after u s t =
    let lines : s.lines ≡ bytes_in_order t.is_big t.before.lines = t.holds_before.lines_are in
    let number : List (List ℕ) → ℕ → ℕ = λ texts. file_number s.encoding.version (unit_file_ids s.encoding u texts) in
    sym (ap (λ (texts : List (List ℕ)). with_unit (number texts) (length s.lines.bytes) u s.emitter)
    t.holds_before.line_texts_are
    ∙ ap (λ (x : WriterContents). with_unit (number t.before.line_texts) (length x.bytes) u s.emitter) lines
    ∙ ap (with_unit (number t.before.line_texts) (length t.before.lines) u) t.holds_before.emitter_is)

-- What a unit needs of the emitter.
pub record Ready (u : UnitPart) (s : TableEmitter) : Type 0 where
  pub buildable : IsBuildable (emitted_rules s.encoding)
  pub texts : HasTableTexts u
  pub ordered : AllOrdered (emitted_rules s.encoding) (place_in (unit_file_ids s.encoding u s.line_strings))
      (length u.files) u.sequences
  pub same : s.emitter.encoding ≡ s.encoding
  pub can : CanEmitUnit s.encoding.address_size u
  pub ids : length (unit_file_ids s.encoding u s.line_strings) ≡ length u.files
  pub fit : All (λ x. AllFit (2 ^ 31) s.encoding (attributes_of x)) (unit_after_entries u s).entries
  pub small : length (spelled_unit_body s.encoding s.info.is_big (unit_after_entries u s).entries) < 2 ^ 31
  pub known : HasItsTexts [] (unit_files s.encoding u s.line_strings).line_texts
      (line_program s.encoding u s.line_strings)
  pub spelled : IsOk (line_program_bytes s.encoding s.lines.is_big u s.line_strings)

ok_is : (r : Result (List ℕ) Error) (bytes : List ℕ) → r ≡ Ok bytes → IsOk r
ok_is (Ok b) bytes h = refl
ok_is (Err e) bytes h = absurd cc

pub unit_ready : (u : UnitPart) (s : TableEmitter) → CanAddUnit u s → Ready u s
unit_ready u s t =
    let here = entries_after u s t in
    let e = s.encoding in
    let fits = t.fits in
    let texts : t.before.line_texts ≡ s.line_strings = sym t.holds_before.line_texts_are in
    let lines_big : t.is_big ≡ s.lines.is_big = sym (ap (λ (x : WriterContents). x.is_big) t.holds_before.lines_are) in
    let info_big : t.is_big ≡ s.info.is_big = sym (ap (λ (x : WriterContents). x.is_big) t.holds_before.units_are) in
    let small_there : length (spelled_unit_body e t.is_big (unit_after_entries u s).entries) < 2 ^ 31 =
    subst (λ (x : EmittedUnit). length (spelled_unit_body e t.is_big x.entries) < 2 ^ 31) here fits.entries_small in
    let built = buildable e t.is_written in
    record {
      buildable = built;
      texts = fits.table_texts;
      ordered =
          sequences_ordered e (place_in (unit_file_ids e u s.line_strings)) (length u.files) u.sequences
          (λ i. let low = place_is_low e u s.line_strings fits.few_files i in omega arith)
          fits.can_emit_sequences.can_build fits.can_emit_sequences.can_show;
      same = ap (λ (x : EmittedUnit). x.encoding) t.holds_before.emitter_is;
      can = fits.can_emit;
      ids = ids_counted u.files (first_unit_files e u s.line_strings);
      fit = subst (λ (x : EmittedUnit). All (λ y. AllFit (2 ^ 31) e (attributes_of y)) x.entries) here
          fits.entries_fit;
      small = subst (λ (b : Bool). length (spelled_unit_body e b (unit_after_entries u s).entries) < 2 ^ 31) info_big
          small_there;
      known =
          subst (λ (l : List (List ℕ)). HasItsTexts [] (unit_files e u l).line_texts (line_program e u l)) texts
          (program_known e t.is_big u t.before.line_texts fits.program built fits.table_texts fits.no_zeros
          fits.few_files fits.can_emit_sequences fits.program_is);
      spelled =
          subst (λ (b : Bool). IsOk (line_program_bytes e b u s.line_strings)) lines_big
          (subst (λ (l : List (List ℕ)). IsOk (line_program_bytes e t.is_big u l)) texts
          (ok_is (line_program_bytes e t.is_big u t.before.line_texts) fits.program fits.program_is));
    }

-- what is written of a unit is what it adds
pub state_is : (u : UnitPart) (s : TableEmitter) (ids : List FileId) (n : ℕ) (p : Program) (texts : List (List ℕ))
    (lines : WriterContents) (line_strings : List (List ℕ)) (info : WriterContents) (emitter : EmittedUnit)
    → ids ≡ unit_file_ids s.encoding u s.line_strings → n ≡ length s.lines.bytes
    → p ≡ line_program s.encoding u s.line_strings → texts ≡ (unit_files s.encoding u s.line_strings).line_texts
    → lines ≡ append (bytes_if_any (program_bytes constant_of s.lines.is_big [] texts p)) s.lines → line_strings ≡ texts
    → info ≡ append (spelled_unit s.encoding s.info.is_big
    (with_unit (file_number s.encoding.version ids) n u s.emitter).entries) s.info
    → emitter ≡ without_entries (with_unit (file_number s.encoding.version ids) n u s.emitter)
    → record {
      encoding = s.encoding;
      lines = lines;
      line_strings = line_strings;
      info = info;
      emitter = emitter;
    } ≡ with_unit_added u s
state_is u s ids n p texts lines line_strings info emitter ids_are n_is p_is texts_are lines_are
    strings_are info_is emitter_is =
    let e = s.encoding in
    let new_ids = unit_file_ids e u s.line_strings in
    let new_texts = (unit_files e u s.line_strings).line_texts in
    let added : List FileId → ℕ → EmittedUnit = λ l k. with_unit (file_number e.version l) k u s.emitter in
    let last = added new_ids (length s.lines.bytes) in
    let same : added ids n ≡ last =
    ap (λ (l : List FileId). added l n) ids_are ∙ ap (λ (k : ℕ). added new_ids k) n_is in
    let new_lines = append (bytes_if_any (line_program_bytes e s.lines.is_big u s.line_strings)) s.lines in
    let lines_all : lines ≡ new_lines =
    lines_are
    ∙ ap (λ (l : List (List ℕ)). append (bytes_if_any (program_bytes constant_of s.lines.is_big [] l p)) s.lines)
    texts_are
    ∙ ap (λ (q : Program). append (bytes_if_any (program_bytes constant_of s.lines.is_big [] new_texts q)) s.lines)
    p_is in
    let new_info = append (spelled_unit e s.info.is_big last.entries) s.info in
    let info_all : info ≡ new_info =
    info_is ∙ ap (λ (x : EmittedUnit). append (spelled_unit e s.info.is_big x.entries) s.info) same in
    let state : WriterContents → List (List ℕ) → WriterContents → EmittedUnit → TableEmitter =
    λ a b i m. record { encoding = e; lines = a; line_strings = b; info = i; emitter = m } in
    ap (λ (a : WriterContents). state a line_strings info emitter) lines_all
    ∙ ap (λ (b : List (List ℕ)). state new_lines b info emitter) (strings_are ∙ texts_are)
    ∙ ap (λ (i : WriterContents). state new_lines new_texts i emitter) info_all
    ∙ ap (λ (m : EmittedUnit). state new_lines new_texts new_info m)
    (emitter_is ∙ ap (λ (x : EmittedUnit). without_entries x) same)

-- ---- one unit of several

pub first_fits : (e : Encoding) (is_big : Bool) (u : UnitPart) (us : List UnitPart) (st : EmittedTable)
    → AllUnitsFit e is_big (u ∷ us) st → UnitFits e is_big u st
unfolding AllUnitsFit
first_fits e is_big u us st fit = fit.0

pub others_fit : (e : Encoding) (is_big : Bool) (u : UnitPart) (us : List UnitPart) (st : EmittedTable)
    → AllUnitsFit e is_big (u ∷ us) st → AllUnitsFit e is_big us (with_emitted_unit e is_big u st)
unfolding AllUnitsFit
others_fit e is_big u us st fit = fit.1

pub can_take : (e : Encoding) (is_big : Bool) (u : UnitPart) (st : EmittedTable) (s : TableEmitter) → IsWritten e
    → HoldsTable e is_big st s → UnitFits e is_big u st → CanAddUnit u s
can_take e is_big u st s served holds_before fits =
    let same = sym holds_before.encoding_is in
    record {
      before = st;
      is_big = is_big;
      is_written = subst IsWritten same served;
      holds_before = subst (λ (x : Encoding). HoldsTable x is_big st s) same holds_before;
      fits = subst (λ (x : Encoding). UnitFits x is_big u st) same fits;
    }

-- all units, one of them and then the others
pub all_later : (e : Encoding) (is_big : Bool) (u : UnitPart) (us : List UnitPart) (st : EmittedTable)
    → with_emitted_units e is_big (u ∷ us) st ≡ with_emitted_units e is_big us (with_emitted_unit e is_big u st)
unfolding with_emitted_units
all_later e is_big u us st = refl

pub none_left : (e : Encoding) (is_big : Bool) (st : EmittedTable) → with_emitted_units e is_big [] st ≡ st
unfolding with_emitted_units
none_left e is_big st = refl

-- ---- the sections

-- their lists, with a header
lists_after : (e : Encoding) (is_big : Bool) (us : List UnitPart) (st : EmittedTable) → AllUnitsFit e is_big us st
    → 8 + length st.ranges < 2 ^ 31 → 8 + length (with_emitted_units e is_big us st).ranges < 2 ^ 31
unfolding with_emitted_units AllUnitsFit
lists_after e is_big [] st fit small = small
lists_after e is_big (u ∷ us) st fit small =
    lists_after e is_big us (with_emitted_unit e is_big u st) fit.1 fit.0.lists_small

pub lists_small : (e : Encoding) (is_big : Bool) (us : List UnitPart) (s : TableEmitter)
    → AllUnitsFit e is_big us no_units → HoldsTable e is_big (emitted_table e is_big us) s
    → 8 + length s.emitter.ranges.bytes < 2 ^ 31
lists_small e is_big us s fit h =
    subst (λ (x : EmittedUnit). 8 + length x.ranges.bytes < 2 ^ 31) (sym h.emitter_is)
    (lists_after e is_big us no_units fit (omega arith))

-- all of them
pub sections_held : (e : Encoding) (is_big : Bool) (st : EmittedTable) (s : TableEmitter) → HoldsTable e is_big st s
    → sections_in s (spelled_declarations s.encoding) (section_of s.line_strings) (section_of s.emitter.texts)
    ≡ sections_of e is_big st
sections_held e is_big st s h =
    ap (λ (x : TableEmitter). sections_in x (spelled_declarations x.encoding) (section_of x.line_strings)
    (section_of x.emitter.texts)) (emitter_as e is_big st s h)
