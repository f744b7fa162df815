-- The facts of a unit that was written.
use Rattle.std.proofs.Common.{◌≡◌, ℕ, ◌-◌, Bool, false, cond, eqb, List, ◌∷◌, length, map, Option, Some, None, Result, Ok, Err, refl, sym, ap, subst, ◌∙◌, arith}
use Rattle.std.specs.Prelude.{pos}
use Rattle.std.proofs.lemmas.Bool.{ne_eqb}
use Rattle.linemap_emit_units.specs.Error.{Error}
use Rattle.linemap_emit_units.specs.Error.TheVariants.{MissingUnitDie}
use Rattle.linemap_emit_units.specs.View.{View}
use Rattle.linemap_emit_units.specs.Parsers.{value_of}
use Rattle.linemap_emit_units.specs.Encoding.{Encoding}
use Rattle.linemap_emit_units.specs.Spelling.{unsigned_within}
use Rattle.linemap_emit_units.specs.Declarations.{Declaration}
use Rattle.std.specs.Option.{option_or}
use Rattle.linemap_emit_units.specs.SectionReads.{string_at}
use Rattle.linemap_emit_units.specs.TableParsing.{table_at}
use Rattle.linemap_emit_units.specs.AttributeMeanings.{if_readable}
use Rattle.linemap_emit_units.specs.AttributeValues.{RawAttribute}
use Rattle.linemap_emit_units.specs.UnitHeaders.{DebugUnit, UnitKind, length_including_self, compilation}
use Rattle.linemap_emit_units.specs.EntryWalks.{Walk}
use Rattle.linemap_emit_units.specs.EntryRows.{Row, row}
use Rattle.linemap_emit_units.specs.UnitEntries.{walk_before}
use Rattle.linemap_emit_units.specs.LineHeaders.{LineHeader}
use Rattle.linemap_emit_units.specs.HeaderParsing.{header_at}
use Rattle.linemap_emit_units.specs.Results.{and_then}
use Rattle.linemap_emit_units.specs.DwarfFiles.{DwarfFile}
use Rattle.linemap_emit_units.specs.UnitFacts.{UnitFacts, unit_facts, root, facts_of, bases_of, with_low_pc, unless_null, dwo_id_in}
use Rattle.linemap_emit_units.specs.TableParts.{UnitPart}
use Rattle.linemap_emit_units.specs.Entry.{Entry}
use Rattle.linemap_emit_units.specs.Entry.TheVariants.{CompileUnit}
use Rattle.linemap_emit_units.specs.EmittedEntries.{AllFit, attributes_of, raw_attribute_of, declarations, spelled_declarations}
use Rattle.linemap_emit_units.specs.EmittedEntryRows.{spelled_entries, row_for}
use Rattle.linemap_emit_units.specs.EmittedUnits.{IsWritten, unit_for}
use Rattle.linemap_emit_units.proofs.EntryRowsRead.{row_again}
use Rattle.linemap_emit_units.proofs.DeclarationsRead.{declarations_again}
use Rattle.linemap_emit_laws.specs.RecordedTables.{RecordsUnit}
use Rattle.linemap_emit_units.specs.BytesAt.{bytes_at}

-- the attributes of a root
abbrev pub root_attributes : Encoding → Entry → List RawAttribute
root_attributes e x = map (raw_attribute_of e) (attributes_of x)

-- the facts that come of it
abbrev pub facts_recorded : Encoding → DwarfFile → DebugUnit → Entry → View → View → LineHeader → UnitFacts
facts_recorded e s u x name directory header = record {
  header = u;
  table = declarations e;
  name = Some name;
  comp_dir = Some directory;
  bases = with_low_pc 0 (bases_of s.sections.file_type e (root_attributes e x));
  line_header = Some header;
  dwo_id = None;
}

-- the place of the root
abbrev pub root_offset : Encoding → Bool → ℕ → ℕ → List Entry → ℕ
root_offset e is_big offset first xs =
    length_including_self (unit_for e is_big offset first xs) - length (spelled_entries e is_big xs)

-- bytes are left before an entry
entry_left : (e : Encoding) (is_big : Bool) (name directory line_program range_list : ℕ) (others : List Entry)
    → eqb (length (spelled_entries e is_big (CompileUnit name directory line_program range_list ∷ others))) 0 ≡ false
unfolding unsigned_within
entry_left e is_big name directory line_program range_list others = ne_eqb _ 0 (omega arith)

-- the root is read
pub root_again : (limit : ℕ) (e : Encoding) (is_big : Bool) (offset first name directory line_program range_list : ℕ)
    (others : List Entry) → IsWritten e
    → AllFit limit e (attributes_of (CompileUnit name directory line_program range_list))
    → root limit (unit_for e is_big offset first (CompileUnit name directory line_program range_list ∷ others))
    (declarations e)
    ≡ Ok (row_for e (root_offset e is_big offset first (CompileUnit name directory line_program range_list ∷ others))
    (pos 0) (CompileUnit name directory line_program range_list))
root_again limit e is_big offset first name directory line_program range_list others w fit =
    let x = CompileUnit name directory line_program range_list in
    let u = unit_for e is_big offset first (x ∷ others) in
    let walk = walk_before u (declarations e) u.entries in
    ap (λ b. cond {A = Result Row Error} b (Err MissingUnitDie) (and_then (value_of (row limit walk)) unless_null))
    (entry_left e is_big name directory line_program range_list others)
    ∙ ap (λ (r : Result (Row × Walk) Error). and_then (value_of r) unless_null)
    (row_again limit e (length_including_self u) (pos 0) is_big u.entries.first x (spelled_entries e is_big others)
    w.has_address_size fit)

-- the facts that its attributes say
facts_of_root : (e : Encoding) (s : DwarfFile) (u : DebugUnit) (name directory line_program range_list : ℕ)
    (name_text directory_text : View) (header : LineHeader)
    → u.encoding ≡ e → u.kind ≡ compilation
    → string_at name s.sections.debug_str ≡ Ok name_text → string_at directory s.sections.debug_str ≡ Ok directory_text
    → header_at s.offset_limit line_program
    (record { address_bytes = e.address_size; directory = Some directory_text; name = Some name_text })
    s.sections.debug_line ≡ Ok header
    → facts_of s u (declarations e) (root_attributes e (CompileUnit name directory line_program range_list))
    ≡ Ok (facts_recorded e s u (CompileUnit name directory line_program range_list) name_text directory_text header)
facts_of_root e s u name directory line_program range_list name_text directory_text header encoding kind name_is
    directory_is header_is =
    ap (λ n. from n (string_at directory s.sections.debug_str)) name_is
    ∙ ap (λ d. from (Ok name_text) d) directory_is
    ∙ ap (λ (c : Encoding). with_header c u.kind (Some name_text) (Some directory_text)
    (header_at s.offset_limit line_program
    (record { address_bytes = c.address_size; directory = Some directory_text; name = Some name_text })
    s.sections.debug_line)) encoding
    ∙ ap (λ k. with_header e k (Some name_text) (Some directory_text)
    (header_at s.offset_limit line_program
    (record { address_bytes = e.address_size; directory = Some directory_text; name = Some name_text })
    s.sections.debug_line)) kind
    ∙ ap (with_header e compilation (Some name_text) (Some directory_text)) header_is
  where
    attributes : List RawAttribute
    attributes = root_attributes e (CompileUnit name directory line_program range_list)

    with_header : Encoding → UnitKind → Option View → Option View → Result LineHeader Error → Result UnitFacts Error
    with_header c k n d r = and_then (and_then r (λ h. Ok (Some h))) (λ lh. Ok (record {
      header = u;
      table = declarations e;
      name = n;
      comp_dir = d;
      bases = with_low_pc 0 (bases_of s.sections.file_type c attributes);
      line_header = lh;
      dwo_id = option_or (dwo_id_in k) None;
    }))

    from : Result View Error → Result View Error → Result UnitFacts Error
    from n d = with_header u.encoding u.kind (if_readable n) (if_readable d)
        (header_at s.offset_limit line_program
        (record { address_bytes = u.encoding.address_size; directory = if_readable d; name = if_readable n })
        s.sections.debug_line)

-- the facts of a unit
pub facts_again : (e : Encoding) (is_big : Bool) (s : DwarfFile) (abbrev_first : ℕ) (u : UnitPart)
    (xs : List Entry) (offset first : ℕ) (say : RecordsUnit e s u xs)
    → IsWritten e → s.sections.debug_abbrev ≡ bytes_at is_big abbrev_first (spelled_declarations e)
    → unit_facts s (unit_for e is_big offset first xs)
    ≡ Ok (facts_recorded e s (unit_for e is_big offset first xs)
    (CompileUnit say.name say.directory say.line_program say.range_list) say.is_name.found say.is_directory.found
    say.header)
facts_again e is_big s abbrev_first u xs offset first say w declared =
    subst (λ (ys : List Entry). unit_facts s (unit_for e is_big offset first ys)
    ≡ Ok (facts_recorded e s (unit_for e is_big offset first ys)
    (CompileUnit say.name say.directory say.line_program say.range_list) say.is_name.found say.is_directory.found
    say.header))
    (sym say.entries_are)
    (ap (λ (v : View). and_then (table_at 0 v) after_table) declared
    ∙ ap (λ r. and_then r after_table) (declarations_again e is_big abbrev_first)
    ∙ ap (λ r. and_then r (λ (row : Row). facts_of s unit (declarations e) row.attributes))
    (root_again s.offset_limit e is_big offset first say.name say.directory say.line_program say.range_list say.others w
    say.fit)
    ∙ facts_of_root e s unit say.name say.directory say.line_program say.range_list say.is_name.found
    say.is_directory.found say.header refl refl say.is_name.there say.is_directory.there say.header_is)
  where
    unit : DebugUnit
    unit = unit_for e is_big offset first
        (CompileUnit say.name say.directory say.line_program say.range_list ∷ say.others)

    after_table : List Declaration → Result UnitFacts Error
    after_table table = and_then (root s.offset_limit unit table) (λ r. facts_of s unit table r.attributes)
