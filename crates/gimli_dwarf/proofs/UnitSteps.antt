-- The facts of a unit, read one after the other, are the whole.
use Rattle.std.proofs.Common.{◌≡◌, ℕ, List, Option, option_map, option_and_then, Result, Ok, Err, IfOk, refl, sym, ap, ◌∙◌}
use Rattle.gimli_dwarf_spec.specs.Calls.{ReturnsOrNoMemory}
use Rattle.std.specs.Option.{option_or}
use Rattle.gimli_dwarf_spec.specs.Error.{Error}
use Rattle.gimli_dwarf_spec.specs.DwarfFileType.{DwarfFileType}
use Rattle.gimli_dwarf_spec.specs.Declarations.{Declaration}
use Rattle.gimli_dwarf_spec.specs.TableParsing.{table_at}
use Rattle.gimli_dwarf_spec.specs.EntryRows.{Row}
use Rattle.gimli_dwarf_spec.specs.EntryViews.{attribute_named}
use Rattle.gimli_dwarf_spec.specs.AttributeMeanings.{value_under}
use Rattle.gimli_dwarf_spec.specs.AttributeValues.{RawValue, RawAttribute}
use Rattle.gimli_dwarf_spec.specs.Attributes.{Bases}
use Rattle.gimli_dwarf_spec.specs.UnitHeaders.{DebugUnit}
use Rattle.gimli_dwarf_spec.specs.LineHeaders.{LineHeader}
use Rattle.gimli_dwarf_spec.specs.Results.{and_then}
use Rattle.gimli_dwarf_spec.specs.DwarfFiles.{DwarfFile}
use Rattle.gimli_dwarf_spec.specs.UnitFacts.{UnitFacts, root, dwo_name, dwo_name_number, facts_of, dwo_id_in, dwo_id_of, line_header_of, address_or_0}
use Rattle.gimli_dwarf.specs.RootValues.{RootValues, root_values, bases_in}
use Rattle.gimli_dwarf.specs.Roots.{facts_without_texts, facts_with_texts, line_unit, with_program_and_begin, facts_with_program}
use Rattle.gimli_dwarf.proofs.RootValueSteps.{ok_values}

-- the facts of a unit whose root is read with a limit of offsets
abbrev pub facts_with_limit : ℕ → DwarfFile → DebugUnit → Result UnitFacts Error
facts_with_limit limit file u =
    and_then (table_at u.abbrev_offset file.sections.debug_abbrev) (λ table.
    and_then (root limit u table) (λ r. facts_of file u table r.attributes))

-- facts that were read
abbrev pub ok_facts : UnitFacts → Result UnitFacts Error
ok_facts u = Ok u

pub facts_by_steps : (file : DwarfFile) (u : DebugUnit) (table : List Declaration)
    (attributes : List RawAttribute) (r found : RootValues) (file_type : DwarfFileType) (bases : Bases)
    (id : Option ℕ) (first second : UnitFacts)
    → r ≡ found
    → file_type ≡ file.sections.file_type
    → ok_values (root_values attributes) ≡ ok_values found
    → bases ≡ bases_in file_type u.encoding found
    → id ≡ option_or (dwo_id_in u.kind) (option_and_then dwo_id_of r.dwo_id)
    → first ≡ facts_without_texts u table bases id
    → ok_facts (facts_with_texts file first r.name r.comp_dir) ≡ ok_facts second
    → facts_with_program file second r.line r.low_pc ≡ facts_of file u table attributes
facts_by_steps file u table attributes r found file_type bases id first second is type read based identified bare
    named =
    let all : root_values attributes ≡ found = cc in
    let one : root_values attributes ≡ r = all ∙ sym is in
    let three : facts_with_texts file first r.name r.comp_dir ≡ second = cc in
    ap (λ (x : UnitFacts). facts_with_program file x r.line r.low_pc) (sym three)
    ∙ ap (λ (x : UnitFacts). facts_with_program file (facts_with_texts file x r.name r.comp_dir) r.line r.low_pc) bare
    ∙ ap (λ b. facts_with_program file
    (facts_with_texts file (facts_without_texts u table b id) r.name r.comp_dir) r.line r.low_pc)
    (based ∙ ap (bases_in file_type u.encoding) (sym is))
    ∙ ap (λ d. facts_with_program file
    (facts_with_texts file (facts_without_texts u table (bases_in file_type u.encoding r) d) r.name r.comp_dir)
    r.line r.low_pc) identified
    ∙ ap (λ (x : RootValues). facts_with_program file
    (facts_with_texts file
    (facts_without_texts u table (bases_in file_type u.encoding x)
    (option_or (dwo_id_in u.kind) (option_and_then dwo_id_of x.dwo_id))) x.name x.comp_dir) x.line x.low_pc) (sym one)
    ∙ ap (λ t. let x : RootValues = root_values attributes in facts_with_program file
    (facts_with_texts file
    (facts_without_texts u table (bases_in t u.encoding x)
    (option_or (dwo_id_in u.kind) (option_and_then dwo_id_of x.dwo_id))) x.name x.comp_dir) x.line x.low_pc) type

module _ (file : DwarfFile) (u : UnitFacts) (line : Option ℕ) (low_pc : Option RawValue) (e : Error) where
  -- a refused line header refuses the unit
  pub refused_line_header : line_header_of file (line_unit u) line ≡ Err e
      → facts_with_program file u line low_pc ≡ Err e
  refused_line_header h =
      ap (λ (o : Result (Option LineHeader) Error).
      and_then o (λ l. with_program_and_begin u l (address_or_0 file u.bases low_pc))) h

  -- and so does a refused begin
  pub refused_low_pc : (l : Option LineHeader) → line_header_of file (line_unit u) line ≡ Ok l
      → address_or_0 file u.bases low_pc ≡ Err e → facts_with_program file u line low_pc ≡ Err e
  refused_low_pc l h k =
      ap (λ (o : Result (Option LineHeader) Error).
      and_then o (λ l. with_program_and_begin u l (address_or_0 file u.bases low_pc))) h
      ∙ ap (with_program_and_begin u l) k

-- what names a split file, by the root and the number of the attribute
pub dwo_name-of_root : (limit : ℕ) (u : UnitFacts) (r : Row) (n : ℕ) → root limit u.header u.table ≡ Ok r
    → n ≡ dwo_name_number u.header.encoding
    → dwo_name limit u ≡ Ok (option_map (λ a. value_under a.name a.value) (attribute_named n r))
dwo_name-of_root limit u r n found same =
    ap (λ (o : Result Row Error).
    and_then o (λ r.
    Ok (option_map (λ a. value_under a.name a.value) (attribute_named (dwo_name_number u.header.encoding) r))))
    found
    ∙ ap (λ m. Ok (option_map (λ a. value_under a.name a.value) (attribute_named m r))) (sym same)

-- ---- the root of a unit whose facts were read

-- the header and the declarations in facts that were read, or others
abbrev header_in : DebugUnit → Result UnitFacts Error → DebugUnit
header_in other (Ok f) = f.header
header_in other (Err e) = other

abbrev table_in : List Declaration → Result UnitFacts Error → List Declaration
table_in other (Ok f) = f.table
table_in other (Err e) = other

begun-parts : (u : UnitFacts) (l : Option LineHeader) (low_pc : Result ℕ Error) (f : UnitFacts)
    → with_program_and_begin u l low_pc ≡ Ok f
    → (f.header ≡ u.header) × (f.table ≡ u.table)
begun-parts u l (Ok a) f h = (ap (header_in u.header) (sym h), ap (table_in u.table) (sym h))
begun-parts u l (Err e) f h = absurd cc

program-parts : (u : UnitFacts) (program : Result (Option LineHeader) Error) (low_pc : Result ℕ Error) (f : UnitFacts)
    → and_then program (λ l. with_program_and_begin u l low_pc) ≡ Ok f
    → (f.header ≡ u.header) × (f.table ≡ u.table)
program-parts u (Ok l) low_pc f h = begun-parts u l low_pc f h
program-parts u (Err e) low_pc f h = absurd cc

facts_of-parts : (file : DwarfFile) (u : DebugUnit) (table : List Declaration) (attributes : List RawAttribute)
    (f : UnitFacts) → facts_of file u table attributes ≡ Ok f
    → (f.header ≡ u) × (f.table ≡ table)
facts_of-parts file u table attributes f h =
    let r : RootValues = root_values attributes in
    let bases : Bases = bases_in file.sections.file_type u.encoding r in
    let id : Option ℕ = option_or (dwo_id_in u.kind) (option_and_then dwo_id_of r.dwo_id) in
    let first : UnitFacts = facts_without_texts u table bases id in
    let second : UnitFacts = facts_with_texts file first r.name r.comp_dir in
    program-parts second (line_header_of file (line_unit second) r.line)
    (address_or_0 file second.bases r.low_pc) f
    (facts_by_steps file u table attributes r r file.sections.file_type bases id first second refl refl refl refl refl
    refl refl
    ∙ h)

-- it is the one that was read
pub root_of_facts : (file : DwarfFile) (u : DebugUnit) (table : List Declaration) (r : Row) (limit : ℕ)
    (result : Result UnitFacts Error)
    → file.offset_limit ≡ limit → root limit u table ≡ Ok r
    → ReturnsOrNoMemory result (facts_of file u table r.attributes)
    → IfOk result (λ f. root file.offset_limit f.header f.table ≡ Ok r)
root_of_facts file u table r limit (Ok f) same found read =
    let parts = facts_of-parts file u table r.attributes f read in
    ap (λ n. root n f.header f.table) same ∙ ap (λ h. root limit h f.table) parts.0
    ∙ ap (root limit u) parts.1 ∙ found
root_of_facts file u table r limit (Err e) same found read = tt
