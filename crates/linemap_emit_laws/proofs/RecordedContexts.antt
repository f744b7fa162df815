-- The context over sections that say what a table says.
use Rattle.std.proofs.Common.{◌≡◌, ℕ, ◌+◌, ◌||◌, Bool, false, cond, List, [], ◌∷◌, All, length, map, Option, Some, None, Result, Ok, refl, sym, ap, subst, ◌∙◌}
use Rattle.std.specs.Prelude.{pos, ◌==◌}
use Rattle.std.specs.List.{filter_map, cons_option, list_any}
use Rattle.std.proofs.lemmas.Bool.{eq-eqb, or_parts}
use Rattle.std.proofs.lemmas.List.Elements.{All-nil, All-cons}
use Rattle.linemap_emit_units.specs.Error.{Error}
use Rattle.linemap_emit_units.specs.View.{View, bytes_left}
use Rattle.linemap_emit_units.specs.Repetition.{fault_of}
use Rattle.linemap_emit_units.proofs.Listings.{listing_end}
use Rattle.linemap_emit_units.specs.DwarfFileType.TheVariants.{Main}
use Rattle.linemap_emit_units.specs.Encoding.{Encoding}
use Rattle.linemap_emit_units.specs.Range.{Range}
use Rattle.linemap_emit_units.specs.Parsers.{proceed, give}
use Rattle.linemap_emit_units.specs.ArangeSets.{ArangeSet, arange_set, sets_to_come}
use Rattle.linemap_emit_units.specs.Tiling.{whole_section, part_of}
use Rattle.linemap_emit_units.specs.UnitHeaders.{units_to_come}
use Rattle.linemap_emit_units.proofs.TilingLemmas.{parts_shrink}
use Rattle.linemap_emit_units.proofs.ArangeSetLemmas.{sets_are_parts}
use Rattle.linemap_emit_units.specs.EntryRows.{Row}
use Rattle.linemap_emit_units.specs.ListSections.{offset_from_base}
use Rattle.linemap_emit_units.specs.Results.{and_then, some_of, unless, each}
use Rattle.linemap_emit_units.specs.Attributes.{counts_from_base, ranges_of_list}
use Rattle.linemap_emit_units.specs.DwarfFiles.{DwarfFile, supplement, first_supplement}
use Rattle.linemap_emit_units.specs.UnitFacts.{UnitFacts, in_file, root}
use Rattle.linemap_emit_units.specs.Lines.{Lines, sequences_of_rows}
use Rattle.linemap_emit_units.specs.UnitLines.{lines_of_unit}
use Rattle.linemap_emit_units.specs.UnitRanges.{RangeFact, no_fact, begins_at, has_list, last_of, list_in, declared_ranges, ranges_of_attributes, or_else, ranges_of_lines, language_in}
use Rattle.linemap_emit_units.specs.Contexts.{ContextUnit, context, context_unit, unit_of_entry, facts_of_code_unit, readable_facts, headers_of, units_of_file, units_of_supplement, ranges_of, lines_of}
use Rattle.linemap_emit_units.specs.TableParts.{RangePart, UnitPart}
use Rattle.linemap_emit_units.specs.Conditions.{has_no_range, any_call}
use Rattle.linemap_emit_units.specs.Entry.{Entry}
use Rattle.linemap_emit_units.specs.Entry.TheVariants.{CompileUnit}
use Rattle.linemap_emit_units.specs.EmittedEntries.{declarations, spelled_declarations}
use Rattle.linemap_emit_units.specs.EmittedEntryRows.{row_for}
use Rattle.linemap_emit_units.specs.EmittedUnits.{IsWritten, unit_for, units_for, spelled_unit, spelled_units}
use Rattle.linemap_emit_units.proofs.UnitsRead.{units_again}
use Rattle.linemap_emit_units.specs.LookupAgreement.{lookup_range, TableAgrees}
use Rattle.linemap_emit_laws.specs.RecordedTables.{RecordsUnit, RecordsUnits, RecordsTable}
use Rattle.linemap_emit_calls_laws.proofs.EntryFacts.{all_there}
use Rattle.linemap_emit_laws.proofs.RecordedUnitFacts.{root_attributes, facts_recorded, root_again, root_offset, facts_again}
use Rattle.linemap_emit_units.specs.BytesAt.{bytes_at}

-- ranges that aren't none come before others
first_ranges : (rs : List RangePart) (others : List Range) → (length rs == 0) ≡ false
    → or_else (map lookup_range rs) others ≡ map lookup_range rs
first_ranges [] others some = absurd cc
first_ranges (r ∷ rs) others some = refl

-- the ranges that a root's attributes say
ranges_recorded : (e : Encoding) (s : DwarfFile) (f : UnitFacts) (lines : Result Lines Error)
    (name directory line_program range_list : ℕ) (rs : List RangePart)
    → s.sections.file_type ≡ Main → (length rs == 0) ≡ false
    → ranges_of_list s f.bases range_list ≡ Ok (map (λ r. Ok (lookup_range r)) rs)
    → ranges_of_attributes (in_file s f) lines (root_attributes e (CompileUnit name directory line_program range_list))
    ≡ Ok (map lookup_range rs)
ranges_recorded e s f lines name directory line_program range_list rs main some list_is =
    let facts : List (Result RangeFact Error) → Result (List Range) Error =
    λ rs. and_then (each (λ (r : Result RangeFact Error). r) rs)
    (λ facts. and_then (declared_ranges (in_file s f) facts (last_of list_in facts))
    (λ rs. Ok (or_else rs (ranges_of_lines lines)))) in
    let from : Result (List (Result Range Error)) Error → Result (List Range) Error =
    λ q. and_then (and_then q (λ rs. each (λ (r : Result Range Error). r) rs))
    (λ rs. Ok (or_else rs (ranges_of_lines lines))) in
    ap (λ t. facts (Ok no_fact ∷ Ok no_fact ∷ Ok no_fact ∷ Ok (begins_at 0)
    ∷ and_then (some_of
    (cond (counts_from_base t f.bases.encoding) (offset_from_base s.offset_limit f.bases.rnglists_base range_list)
    (Ok range_list))) (λ o. Ok (has_list o)) ∷ [])) main
    ∙ ap from list_is
    ∙ ap (λ q. and_then q (λ rs. Ok (or_else rs (ranges_of_lines lines)))) (all_there rs)
    ∙ ap (λ l. Ok l) (first_ranges rs (ranges_of_lines lines) some)

-- ---- one unit

-- the root's entry
abbrev pub root_entry : (e : Encoding) (s : DwarfFile) (u : UnitPart) (xs : List Entry)
    → RecordsUnit e s u xs → Entry
root_entry e s u xs say = CompileUnit say.name say.directory say.line_program say.range_list

-- the facts of a unit
abbrev pub facts_of_unit : (e : Encoding) (is_big : Bool) (s : DwarfFile) (u : UnitPart) (xs : List Entry)
    → RecordsUnit e s u xs → ℕ → ℕ → UnitFacts
facts_of_unit e is_big s u xs say offset first =
    facts_recorded e s (unit_for e is_big offset first xs) (root_entry e s u xs say) say.is_name.found
    say.is_directory.found say.header

-- what lookups know of it
abbrev pub unit_agrees : (e : Encoding) (is_big : Bool) (s : DwarfFile) (u : UnitPart) (xs : List Entry)
    → RecordsUnit e s u xs → ℕ → ℕ → ContextUnit
unit_agrees e is_big s u xs say offset first = record {
  facts = facts_of_unit e is_big s u xs say offset first;
  ranges = map lookup_range u.ranges;
  language = None;
  lines = Ok (record { sequences = sequences_of_rows say.rows; files = say.files });
}

unit_again : (e : Encoding) (is_big : Bool) (s : DwarfFile) (u : UnitPart) (xs : List Entry)
    (say : RecordsUnit e s u xs) (offset first : ℕ) → IsWritten e → s.sections.file_type ≡ Main
    → (length u.ranges == 0) ≡ false
    → context_unit (in_file s (facts_of_unit e is_big s u xs say offset first))
    ≡ Ok (unit_agrees e is_big s u xs say offset first)
unit_again e is_big s u xs say offset first w main some =
    let f = facts_of_unit e is_big s u xs say offset first in
    let attributes = root_attributes e (root_entry e s u xs say) in
    let lines_is : lines_of_unit (in_file s f)
    ≡ Ok (record { sequences = sequences_of_rows say.rows; files = say.files }) = say.lines_are f refl in
    let root_is : root s.offset_limit f.header f.table
    ≡ Ok (row_for e (root_offset e is_big offset first (root_entry e s u xs say ∷ say.others)) (pos 0)
    (root_entry e s u xs say)) =
    subst (λ (ys : List Entry). root s.offset_limit (unit_for e is_big offset first ys) (declarations e)
    ≡ Ok (row_for e (root_offset e is_big offset first (root_entry e s u xs say ∷ say.others)) (pos 0)
    (root_entry e s u xs say))) (sym say.entries_are)
    (root_again s.offset_limit e is_big offset first say.name say.directory say.line_program say.range_list say.others w
    say.fit) in
    ap (λ l. and_then (root s.offset_limit f.header f.table) (λ r. unit_of_entry (in_file s f) l r)) lines_is
    ∙ ap (λ q. and_then q
    (λ (r : Row). unit_of_entry (in_file s f)
    (Ok (record { sequences = sequences_of_rows say.rows; files = say.files })) r)) root_is
    ∙ ap (λ q. and_then q
    (λ ranges. Ok
    (record {
      facts = f;
      ranges = ranges;
      language = language_in attributes;
      lines = Ok (record { sequences = sequences_of_rows say.rows; files = say.files });
    })))
    (ranges_recorded e s f (Ok (record { sequences = sequences_of_rows say.rows; files = say.files })) say.name
    say.directory say.line_program say.range_list u.ranges main some (say.ranges_are f.bases refl refl))

-- ---- all units

-- what lookups know of units from an offset on
unfoldable pub agreeing_units : (e : Encoding) (is_big : Bool) (s : DwarfFile) (us : List UnitPart)
    (all : List (List Entry)) → RecordsUnits e s us all → ℕ → ℕ → List ContextUnit
agreeing_units e is_big s [] [] say offset first = []
agreeing_units e is_big s [] (x ∷ xs) say offset first = []
agreeing_units e is_big s (u ∷ us) [] say offset first = []
agreeing_units e is_big s (u ∷ us) (x ∷ xs) say offset first =
    unit_agrees e is_big s u x say.0 offset first ∷ agreeing_units e is_big s us xs say.1
    (offset + length (spelled_unit e is_big x)) (first + length (spelled_unit e is_big x))

abbrev facts_in : ContextUnit → UnitFacts
facts_in c = c.facts

-- the context has each unit
kept_again : (e : Encoding) (is_big : Bool) (s : DwarfFile) (abbrev_first : ℕ) (us : List UnitPart)
    (all : List (List Entry)) (say : RecordsUnits e s us all) (offset first : ℕ) → IsWritten e
    → s.sections.debug_abbrev ≡ bytes_at is_big abbrev_first (spelled_declarations e)
    → filter_map (facts_of_code_unit s) (units_for e is_big offset first all)
    ≡ map facts_in (agreeing_units e is_big s us all say offset first)
unfolding agreeing_units
kept_again e is_big s abbrev_first [] [] say offset first w declared = refl
kept_again e is_big s abbrev_first [] (x ∷ xs) say offset first w declared = absurd say
kept_again e is_big s abbrev_first (u ∷ us) [] say offset first w declared = absurd say
kept_again e is_big s abbrev_first (u ∷ us) (x ∷ xs) say offset first w declared =
    ap (λ r. cons_option (readable_facts r)
    (filter_map (facts_of_code_unit s)
    (units_for e is_big (offset + length (spelled_unit e is_big x)) (first + length (spelled_unit e is_big x)) xs)))
    (facts_again e is_big s abbrev_first u x offset first say.0 w declared)
    ∙ ap (λ l. facts_of_unit e is_big s u x say.0 offset first ∷ l)
    (kept_again e is_big s abbrev_first us xs say.1 (offset + length (spelled_unit e is_big x))
    (first + length (spelled_unit e is_big x)) w declared)

-- none has its ranges refused
each_again : (e : Encoding) (is_big : Bool) (s : DwarfFile) (us : List UnitPart) (all : List (List Entry))
    (say : RecordsUnits e s us all) (offset first : ℕ) → IsWritten e → s.sections.file_type ≡ Main
    → list_any has_no_range us ≡ false
    → each (λ u. context_unit (in_file s u)) (map facts_in (agreeing_units e is_big s us all say offset first))
    ≡ Ok (agreeing_units e is_big s us all say offset first)
unfolding agreeing_units
each_again e is_big s [] [] say offset first w main some = refl
each_again e is_big s [] (x ∷ xs) say offset first w main some = absurd say
each_again e is_big s (u ∷ us) [] say offset first w main some = absurd say
each_again e is_big s (u ∷ us) (x ∷ xs) say offset first w main some =
    let parts = or_parts (has_no_range u) (list_any has_no_range us) some in
    let here =
    or_parts (length u.ranges == 0)
    (list_any (λ f. (length f.ranges == 0) || any_call (λ c. length c.ranges == 0) f.calls) u.functions) parts.0 in
    let rest =
    agreeing_units e is_big s us xs say.1 (offset + length (spelled_unit e is_big x))
    (first + length (spelled_unit e is_big x)) in
    ap (λ r. and_then r (λ y.
    and_then (each (λ u. context_unit (in_file s u)) (map facts_in rest)) (λ ys. Ok (y ∷ ys))))
    (unit_again e is_big s u x say.0 offset first w main here.0)
    ∙ ap (λ r. and_then r (λ ys. Ok (unit_agrees e is_big s u x say.0 offset first ∷ ys)))
    (each_again e is_big s us xs say.1 (offset + length (spelled_unit e is_big x))
    (first + length (spelled_unit e is_big x)) w main parts.1)

-- what lookups know says what the table says
pub table_agrees : (e : Encoding) (is_big : Bool) (s : DwarfFile) (us : List UnitPart) (all : List (List Entry))
    (say : RecordsUnits e s us all) (offset first : ℕ)
    → TableAgrees ranges_of lines_of us (agreeing_units e is_big s us all say offset first)
unfolding agreeing_units
table_agrees e is_big s [] [] say offset first = tt
table_agrees e is_big s [] (x ∷ xs) say offset first = absurd say
table_agrees e is_big s (u ∷ us) [] say offset first = absurd say
table_agrees e is_big s (u ∷ us) (x ∷ xs) say offset first = (
  record {
    ranges_agree = refl;
    number = say.0.number;
    rows = say.0.rows;
    files = say.0.files;
    rows_agree = say.0.rows_agree;
    files_numbered = say.0.files_numbered;
    lines_are = refl;
  },
  table_agrees e is_big s us xs say.1 (offset + length (spelled_unit e is_big x))
      (first + length (spelled_unit e is_big x)),
)

-- ---- the file

-- no byte is left, so there is no set of address ranges
no_sets : (limit : ℕ) (v : View) → bytes_left v ≡ 0 → fault_of (sets_to_come limit (whole_section v)) ≡ None
no_sets limit v none =
    ap fault_of (listing_end (parts_shrink (sets_are_parts limit) (bytes_left v)) v v
    (ap (λ b. cond {A = Result (Option ArangeSet × View) Error} b (Ok (None, v))
    (proceed (part_of (arange_set limit) (bytes_left v) v) (λ x. give (Some x)))) (eq-eqb (bytes_left v) 0 none)))

-- the context
pub context_again : (e : Encoding) (is_big : Bool) (s : DwarfFile) (us : List UnitPart)
    (all : List (List Entry)) (t : RecordsTable e is_big s us all) → list_any has_no_range us ≡ false
    → context s
    ≡ Ok (record {
      units = agreeing_units e is_big s us all t.units_are_recorded 0 t.info_first;
      supplement_units = [];
    })
context_again e is_big s us all t some =
    let own_units = agreeing_units e is_big s us all t.units_are_recorded 0 t.info_first in
    let whole : headers_of s
    ≡ record {
      items = units_for e is_big 0 t.info_first all;
      ending = Ok (bytes_at is_big (t.info_first + length (spelled_units e is_big all)) []);
    } =
    ap (λ v. units_to_come s.offset_limit (whole_section v)) t.units_are
    ∙ units_again s.offset_limit e is_big t.info_first all t.encoding_is_written t.units_are_small in
    let of_file : units_of_file s ≡ Ok own_units =
    ap (λ l. and_then (each (λ u. context_unit (in_file s u)) (filter_map (facts_of_code_unit s) l.items))
    (λ us. unless (fault_of l) (Ok us))) whole
    ∙ ap (λ fs. and_then (each (λ u. context_unit (in_file s u)) fs) (λ us. Ok us))
    (kept_again e is_big s t.abbrev_first us all t.units_are_recorded 0 t.info_first t.encoding_is_written
    t.declarations_are)
    ∙ ap (λ r. and_then r (λ us. Ok us))
    (each_again e is_big s us all t.units_are_recorded 0 t.info_first t.encoding_is_written t.is_main some) in
    ap (λ f. unless f
    (and_then (units_of_file s)
    (λ units. and_then (units_of_supplement (supplement s))
    (λ supplement_units. Ok (record { units = units; supplement_units = supplement_units })))))
    (no_sets s.offset_limit s.sections.debug_aranges t.no_aranges)
    ∙ ap (λ r. and_then r
    (λ units. and_then (units_of_supplement (supplement s))
    (λ supplement_units. Ok (record { units = units; supplement_units = supplement_units })))) of_file
    ∙ ap (λ l. and_then (units_of_supplement (first_supplement s.offset_limit l))
    (λ supplement_units. Ok (record { units = own_units; supplement_units = supplement_units }))) t.is_alone

-- what holds of each unit that agrees holds of all its units
pub all_units : (e : Encoding) (is_big : Bool) (s : DwarfFile) (P : ContextUnit → Type 0)
    → ((u : UnitPart) (xs : List Entry) (say : RecordsUnit e s u xs) (offset first : ℕ)
    → P (unit_agrees e is_big s u xs say offset first))
    → (us : List UnitPart) (all : List (List Entry)) (say : RecordsUnits e s us all) (offset first : ℕ)
    → All P (agreeing_units e is_big s us all say offset first)
unfolding agreeing_units
all_units e is_big s P holds [] [] say offset first = All-nil P
all_units e is_big s P holds [] (x ∷ xs) say offset first = All-nil P
all_units e is_big s P holds (u ∷ us) [] say offset first = All-nil P
all_units e is_big s P holds (u ∷ us) (x ∷ xs) say offset first =
    let later = offset + length (spelled_unit e is_big x) in
    let more = first + length (spelled_unit e is_big x) in
    All-cons P (unit_agrees e is_big s u x say.0 offset first) (agreeing_units e is_big s us xs say.1 later more)
    (holds u x say.0 offset first) (all_units e is_big s P holds us xs say.1 later more)
