-- The line number program of a unit is read as its rows and its files.
use Rattle.std.proofs.Common.{◌≡◌, ◌≢◌, ℕ, zero, suc, ◌+◌, ◌<◌, ◌≤◌, ◌^◌, Bool, true, false, cond, not, ◌&&◌, List, [], ◌∷◌, ◌++◌, length, map, Option, Some, option_map, slice_get, get_or, Result, Ok, refl, sym, ap, subst, ◌∙◌, arith, append-nil}
use Rattle.std.specs.Prelude.{All, nat_le}
use Rattle.std.specs.Str.{IsUtf8}
use Rattle.std.proofs.lemmas.List.{length-replicate}
use Rattle.std.proofs.lemmas.List.Elements.{All-nil, All-weaker, All-replicate}
use Rattle.std.proofs.lemmas.Option.{slice_get-get_or, slice_get_within}
use Rattle.gimli_lines_write_laws.specs.FileTables.{Text, in_header, of_line_strings, File, Info, no_info}
use Rattle.gimli_lines_write_laws.specs.StringSections.{IsText, section_of}
use Rattle.gimli_lines_write_laws.specs.HeaderSpelling.{Tables, fields_at, directories_at, files_at, header_value}
use Rattle.gimli_lines_write_laws.specs.LineStrings.{table_after, IsKnown, bytes_of_text}
use Rattle.gimli_lines_write_laws.specs.HeaderContents.{header_tables, tables_with, empty_text, strings_after, line_strings_after, records_source, AllKnown}
use Rattle.gimli_lines_write_laws.specs.UnitBytes.{unit_bytes}
use Rattle.gimli_lines_write_laws.specs.UnitReadBack.{TablesReadBack}
use Rattle.gimli_lines_write_laws.specs.ProgramReadBack.{Holds, InfoFits, SourceHasNoZero}
use Rattle.gimli_lines_write_laws.proofs.StoredFiles.{tables_read_back, directories_below, files_below, directories_read, files_read}
use Rattle.gimli_lines_write_laws.proofs.UnitReading.{UnitIsRead, unit_is_read}
use Rattle.gimli_lines_write_program.specs.BuiltPrograms.{no_details}
use Rattle.linemap_emit_rows.specs.Encoding.{Encoding}
use Rattle.linemap_emit_rows.specs.View.{View}
use Rattle.linemap_emit_rows.specs.BytesAt.{bytes_at}
use Rattle.linemap_emit_rows.specs.Results.{and_then, unless}
use Rattle.linemap_emit_rows.specs.Error.{Error}
use Rattle.linemap_emit_rows.specs.NumberBytes.{constant_of}
use Rattle.linemap_emit_rows.specs.BuiltRows.{rows_of, raw_file}
use Rattle.linemap_emit_rows.specs.RowPieces.{IsBuildable}
use Rattle.linemap_emit_rows.specs.Runs.{shown_rows}
use Rattle.linemap_emit_rows.specs.LineFiles.{FileFacts}
use Rattle.linemap_emit_rows.specs.LineHeaders.{LineHeader}
use Rattle.linemap_emit_rows.specs.HeaderParsing.{LineUnit, line_header}
use Rattle.linemap_emit_rows.specs.DwarfFiles.{DwarfFile}
use Rattle.linemap_emit_rows.specs.UnitFacts.{UnitFacts, in_file}
use Rattle.linemap_emit_rows.specs.Lines.{ProgramRow, Lines, sequences_of_rows}
use Rattle.linemap_emit_rows.specs.FileTexts.{texts_of_files}
use Rattle.linemap_emit_rows.specs.FilePaths.{is_rooted}
use Rattle.linemap_emit_rows.specs.UnitLines.{run_of_program, lines_of_program, program_row, with_defined_files}
use Rattle.linemap_emit_rows.specs.TableParts.{FilePart, UnitPart}
use Rattle.linemap_emit_rows.specs.FileText.{file_text}
use Rattle.linemap_emit_rows.specs.LookupAgreement.{AreNumbered}
use Rattle.linemap_emit_rows.specs.EmittedRows.{emitted_rules, emitted_sequences, ArePlaces}
use Rattle.linemap_emit_rows.specs.SoundSequences.{CanEmitSequences}
use Rattle.linemap_emit_rows.specs.ShownPrograms.{ShowsRows}
use Rattle.linemap_emit_rows.proofs.EmittedRowsBuilt.{sequences_follow, sequences_readable}
use Rattle.linemap_emit_rows.proofs.EmittedProgramRows.{shows_again}
use Rattle.linemap_emit_programs.specs.EmittedFiles.{HasTableTexts, EmittedFiles, text_in, first_unit_files, unit_files, unit_file_ids, place_in, file_number}
use Rattle.linemap_emit_programs.specs.EmittedPrograms.{line_program_bytes, FilesAreUtf8}
use Rattle.linemap_emit_programs.proofs.BuiltUnits.{none_is_empty}
use Rattle.linemap_emit_programs.proofs.ListPlaces.{extends_on, get_extended, length-extended}
use Rattle.linemap_emit_programs.proofs.SoundFiles.{Stands, FileStands, AreSound, unit_sound, sound_is_consistent, files_stay, texts_extend}
use Rattle.linemap_emit_programs.proofs.PlacedFiles.{text_is, text_stays, files_placed, place_low, files_few, directories_few}
use Rattle.linemap_emit_programs.proofs.EmittedFileTexts.{unit_texts, numbered_text, texts_again, placed_text}

-- ---- lists

-- a file of a unit has texts that are UTF-8
utf8_at : (fs : List FilePart) (i : ℕ) (f : FilePart) → FilesAreUtf8 fs → slice_get fs i ≡ Some f
    → IsUtf8 f.directory × IsUtf8 f.name
utf8_at [] i f all h = absurd cc
utf8_at (g ∷ fs) zero f all h =
    let same : g ≡ f = cc in subst (λ (x : FilePart). IsUtf8 x.directory × IsUtf8 x.name) same all.0
utf8_at (g ∷ fs) (suc i) f all h = utf8_at fs i f all.1 h

-- ---- what is recorded of files

info_fits : (i : Info) → i ≡ no_info → InfoFits i
info_fits i e = subst InfoFits (sym e) (record {
  timestamp = omega arith;
  size = omega arith;
  md5 = (length-replicate {A = ℕ} 16 0, All-replicate (λ (b : ℕ). b < 256) 16 0 (omega arith));
})

info_free : (i : Info) → i ≡ no_info → SourceHasNoZero i
info_free i e = subst SourceHasNoZero (sym e) tt

-- a text in the tables is known
known_is : (version : ℕ) (line_texts : List (List ℕ)) (t : Text) → Stands version line_texts t
    → IsKnown [] line_texts t
known_is version line_texts (in_header bytes) h = tt
known_is version line_texts (of_line_strings place) h = h.1
known_is version line_texts _ h = absurd h

-- no texts take no bytes
none_short : (limit : ℕ) → length (section_of []) ≤ limit
unfolding section_of
none_short limit = omega arith

-- and every section begins with them
none_hold : (v : View) → Holds [] v
unfolding section_of
none_hold v = (v.bytes, refl)

-- ---- a unit's program

module _ (e : Encoding) (is_big : Bool) (u : UnitPart) (line_texts : List (List ℕ)) (bytes : List ℕ)
    (can_build : IsBuildable (emitted_rules e)) (has : HasTableTexts u) (free : All IsText line_texts)
    (few : length u.files < 2 ^ 31) (sequences : CanEmitSequences e.address_size (length u.files) u.sequences)
    (bytes_are : line_program_bytes e is_big u line_texts ≡ Ok bytes) where
  -- its files, and how they began
  abbrev first : EmittedFiles
  first = first_unit_files e u line_texts

  abbrev st : EmittedFiles
  st = unit_files e u line_texts

  sound : AreSound st
  sound = unit_sound e u line_texts has free

  version_is : st.tables.version ≡ e.version
  version_is = (files_stay u.files first).version

  -- the places of its files
  abbrev place : ℕ → ℕ
  place = place_in (unit_file_ids e u line_texts)

  -- the unit's own file, where the version has it
  abbrev own_files : Bool → File → List File
  own_files b f = cond b [] (f ∷ [])

  first_few : length first.tables.files ≤ 1
  first_few = by (nat_le e.version 4) _
    where
      by : (b : Bool) (f : File) → length (own_files b f) ≤ 1
      by true f = omega arith
      by false f = omega arith

  all_few : length st.tables.files ≤ 1 + length u.files
  all_few = let n = files_few u.files first in let m = first_few in omega arith

  are_places : ArePlaces place
  are_places i = let low = place_low u.files first i in let n = all_few in omega arith

  -- ---- its tables

  -- no text is added to them
  abbrev tables : Tables
  tables = tables_with [] st.line_texts st.tables no_details (in_header [])

  same_tables : header_tables [] st.line_texts st.tables no_details ≡ tables
  same_tables =
      ap (λ (o : Option Text). tables_with (strings_after o []) (line_strings_after o st.line_texts) st.tables
      no_details
      (empty_text [] st.line_texts o)) (none_is_empty st.tables.version st.tables.infos)

  unit_bytes_are : unit_bytes constant_of is_big (emitted_rules e) tables (emitted_sequences place u.sequences)
      ≡ Ok bytes
  unit_bytes_are =
      ap (λ (t : Tables). unit_bytes constant_of is_big (emitted_rules e) t (emitted_sequences place u.sequences))
      (sym same_tables) ∙ bytes_are

  few_directories : length st.tables.directories < 2 ^ 64
  few_directories = let n = directories_few u.files first in omega arith

  read_back : TablesReadBack e.version tables
  read_back =
      subst (λ v. TablesReadBack v tables) version_is
      (tables_read_back [] st.line_texts st.tables no_details (in_header []) (sound_is_consistent st sound)
      (All-weaker (λ (i : Info). i ≡ no_info) InfoFits info_fits st.tables.infos sound.plain)
      (All-weaker (λ (i : Info). i ≡ no_info) SourceHasNoZero info_free st.tables.infos sound.plain)
      (All-nil (λ (b : ℕ). b ≢ 0)) few_directories)

  no_sources : records_source st.tables.version no_details ≡ false
  no_sources = by (nat_le st.tables.version 4)
    where
      by : (b : Bool) → (not b && false) ≡ false
      by true = refl
      by false = refl

  known : AllKnown [] st.line_texts st.tables no_details (in_header [])
  known = record {
    directories = All-weaker (Stands st.tables.version st.line_texts) (IsKnown [] st.line_texts)
        (λ t h. known_is st.tables.version st.line_texts t h) st.tables.directories sound.directories;
    paths = All-weaker (FileStands st.tables.version st.line_texts (length st.tables.directories))
        (λ (f : File). IsKnown [] st.line_texts f.path)
        (λ f h. known_is st.tables.version st.line_texts f.path h.path) st.tables.files sound.files;
    sources = λ present. absurd (let clash : true ≡ false = sym present ∙ no_sources in cc);
  }

  pub program_known : AllKnown [] st.line_texts st.tables no_details (in_header [])
  program_known = known

  -- ---- what is read

  pub unit_read : UnitIsRead constant_of is_big (emitted_rules e) tables (emitted_sequences place u.sequences) bytes
  unit_read =
      unit_is_read constant_of (emitted_rules e) tables (emitted_sequences place u.sequences) is_big bytes can_build
      (omega arith) (omega arith) read_back unit_bytes_are

  -- the unit that has the program
  abbrev unit_of : View → View → LineUnit
  unit_of directory name = record { address_bytes = e.address_size; directory = Some directory; name = Some name }

  -- the header at an offset, whose first length has an identifier
  abbrev pub program_header : ℕ → ℕ → View → View → LineHeader
  program_header offset at directory name =
      header_value (emitted_rules e) is_big offset
      (fields_at (emitted_rules e) is_big at tables unit_read.unit.program)
      (unit_of directory name) tables unit_read.unit.program

  -- it is read, whatever follows it
  pub header_is : (limit offset at : ℕ) (directory name : View) (rest : List ℕ) → length bytes < limit
      → length (section_of st.line_texts) ≤ limit
      → line_header limit offset (unit_of directory name) (bytes_at is_big at (bytes ++ rest))
      ≡ Ok (program_header offset at directory name, bytes_at is_big (at + length bytes) rest)
  header_is limit offset at directory name rest small texts_small =
      unit_read.header limit offset at (unit_of directory name) rest small
      (directories_below [] st.line_texts st.tables no_details (in_header []) known limit (none_short limit)
      texts_small)
      (files_below [] st.line_texts st.tables no_details (in_header []) known limit (none_short limit) texts_small)
      refl

  -- the rows that it shows
  abbrev pub program_rows : List ProgramRow
  program_rows = map program_row (rows_of (emitted_rules e) (emitted_sequences place u.sequences))

  -- its lines
  pub lines_are : (s : DwarfFile) (facts : UnitFacts) (offset at : ℕ) (directory name : View)
      → 2 ^ 31 ≤ s.offset_limit → Holds st.line_texts s.sections.debug_line_str
      → directory.bytes ≡ u.directory → name.bytes ≡ u.name → facts.comp_dir ≡ Some directory
      → lines_of_program (in_file s facts) (program_header offset at directory name)
      ≡ Ok (record { sequences = sequences_of_rows program_rows; files = unit_texts u st })
  lines_are s facts offset at directory name wide holds directory_is name_is within =
      let h = program_header offset at directory name in
      let shows : ShowsRows s.offset_limit h program_rows =
      shows_again s.offset_limit h is_big (emitted_sequences place u.sequences) (omega arith) can_build
      (sequences_follow e place u.sequences are_places sequences.can_build)
      (sequences_readable e place u.sequences sequences.can_build) refl unit_read.unit.entries_are in
      let all_texts : All IsText st.line_texts = sound.no_zeros in
      let texts : texts_of_files (in_file s facts) h ≡ Ok (unit_texts u st) =
      texts_again s facts h u st name directory (record {
        version_is = sym version_is;
        directories_read =
            directories_read [] st.line_texts st.tables no_details (in_header []) known (All-nil IsText) all_texts refl
            s.sections.debug_str s.sections.debug_line_str (none_hold s.sections.debug_str) holds e is_big
            (directories_at (emitted_rules e) (fields_at (emitted_rules e) is_big at tables unit_read.unit.program));
        files_read =
            files_read [] st.line_texts st.tables no_details (in_header []) known (All-nil IsText) all_texts refl
            s.sections.debug_str s.sections.debug_line_str (none_hold s.sections.debug_str) holds e is_big
            (files_at (emitted_rules e) is_big
            (fields_at (emitted_rules e) is_big at tables unit_read.unit.program) tables) (sym version_is);
        unit_file_is = refl;
        name_is = name_is;
      }) sound within directory_is some_files in
      let with_files : List FileFacts → LineHeader = λ fs. record h { files = fs } in
      let same : with_defined_files s.offset_limit h ≡ h =
      ap (λ fs. with_files (h.files ++ fs)) shows.defines_none ∙ ap with_files (append-nil h.files) in
      let from : Result (List (List ℕ)) Error → List ProgramRow → Result Lines Error =
      λ r rs. and_then r (λ files. Ok (record { sequences = sequences_of_rows rs; files = files })) in
      ap (λ f. unless f
      (from (texts_of_files (in_file s facts) (with_defined_files s.offset_limit h))
      (map program_row (shown_rows (run_of_program s.offset_limit h).items)))) shows.has_no_fault
      ∙ ap (from (texts_of_files (in_file s facts) (with_defined_files s.offset_limit h))) shows.rows_are
      ∙ ap (λ k. from (texts_of_files (in_file s facts) k) program_rows) same
      ∙ ap (λ r. from r program_rows) texts
    where
      some_files : nat_le st.tables.version 4 ≡ false → length st.tables.files ≢ 0
      some_files new =
          let there = (files_stay u.files first).files in
          let longer = length-extended first.tables.files st.tables.files there in
          let one : length first.tables.files ≡ 1 =
          ap (λ b. length (own_files b
          (record {
            path = text_in e.version (table_after e.version u.directory line_texts) u.name;
            directory = 0;
          })))
          (ap (λ v. nat_le v 4) (sym version_is) ∙ new) in
          omega arith

  -- each file of the table has its text under its number
  pub numbered_are : is_rooted u.directory ≡ true → IsUtf8 u.directory → FilesAreUtf8 u.files
      → AreNumbered (file_number e.version (unit_file_ids e u line_texts)) u (unit_texts u st)
  numbered_are rooted utf8 all i below =
      let f = get_or u.files i (record { directory = []; name = [] }) in
      let there = slice_get-get_or u.files i (record { directory = []; name = [] }) below in
      let p = files_placed u.files first i f there in
      let texts = utf8_at u.files i f all there in
      let low = slice_get_within st.tables.files (place i) p.file p.there in
      let n = all_few in
      let small : place i + 1 < 2 ^ 64 = omega arith in
      ap (λ v. slice_get (unit_texts u st) (raw_file v (place i))) (sym version_is)
      ∙ numbered_text u st (place i) p.file p.there small
      ∙ ap Some (placed_text u st f (place i) p own own_there own_is rooted utf8 texts.0 texts.1)
      ∙ sym (ap (option_map (file_text u)) there)
    where
      own : Text
      own = text_in e.version line_texts u.directory

      own_there : slice_get st.tables.directories 0 ≡ Some own
      own_there =
          get_extended first.tables.directories st.tables.directories 0 own (files_stay u.files first).directories refl

      own_is : bytes_of_text [] st.line_texts own ≡ Some u.directory
      own_is =
          let one = table_after e.version u.directory line_texts in
          text_stays one st.line_texts
          (extends_on (texts_extend e.version u.name one) (files_stay u.files first).texts) own u.directory
          (text_is e.version u.directory line_texts)
