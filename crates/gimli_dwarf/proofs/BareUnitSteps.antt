-- A unit without its declarations and its line header, from what is read and checked one after the other.
use Rattle.std.proofs.Common.{◌≡◌, ℕ, List, [], Option, Some, None, option_and_then, Result, Ok, Err, IfSome, refl, sym, ap, ◌∙◌}
use Rattle.std.specs.Option.{option_or}
use Rattle.gimli_dwarf_spec.specs.Error.{Error}
use Rattle.gimli_dwarf_spec.specs.Results.{and_then, refusal_of}
use Rattle.gimli_dwarf_spec.specs.Declarations.{Declaration}
use Rattle.gimli_dwarf_spec.specs.TableParsing.{table_at}
use Rattle.gimli_dwarf_spec.specs.AttributeValues.{RawValue, RawAttribute}
use Rattle.gimli_dwarf_spec.specs.Attributes.{Bases}
use Rattle.gimli_dwarf_spec.specs.UnitHeaders.{DebugUnit}
use Rattle.gimli_dwarf_spec.specs.LineHeaders.{LineHeader}
use Rattle.gimli_dwarf_spec.specs.EntryRows.{Row}
use Rattle.gimli_dwarf_spec.specs.DwarfFiles.{DwarfFile}
use Rattle.gimli_dwarf_spec.specs.UnitFacts.{UnitFacts, unit_facts, root, facts_of, with_low_pc, dwo_id_in, dwo_id_of, line_header_of, address_or_0}
use Rattle.gimli_dwarf.specs.BareUnits.{bare, bare_unit_facts, root_declarations}
use Rattle.gimli_dwarf.specs.RootValues.{root_values, bases_in}
use Rattle.gimli_dwarf.specs.Roots.{facts_without_texts, facts_with_texts, line_unit, with_program_and_begin, facts_with_program}
use Rattle.gimli_dwarf.proofs.RootDeclarations.{root-of_declarations}
use Rattle.gimli_dwarf.proofs.UnitSteps.{facts_by_steps, root_of_facts}

-- ---- the line number program, and where the unit begins

module _ (file : DwarfFile) (u : UnitFacts) (line : Option ℕ) (low_pc : Option RawValue) (size : ℕ)
    (sized : size ≡ u.header.encoding.address_size) where
  -- whether the line header can be read, where addresses have this size
  abbrev pub check_with : ℕ → Result (Unit {0}) Error
  check_with bytes =
      refusal_of
      (line_header_of file (record { address_bytes = bytes; directory = u.comp_dir; name = u.name }) line)

  -- a line header and a begin, or their refusals
  abbrev bare_with : Result (Option LineHeader) Error → Result ℕ Error → Result UnitFacts Error
  bare_with program begin = bare (and_then program (λ h. with_program_and_begin u h begin))

  pub bare-refused_program : (e : Error) → check_with size ≡ Err e
      → bare (facts_with_program file u line low_pc) ≡ Err e
  bare-refused_program e h = by_program (line_header_of file (line_unit u) line) (ap check_with (sym sized) ∙ h)
    where
      by_program : (r : Result (Option LineHeader) Error) → refusal_of r ≡ Err e
          → bare_with r (address_or_0 file u.bases low_pc) ≡ Err e
      by_program (Ok l) h = absurd cc
      by_program (Err d) h = let same : d ≡ e = cc in ap (λ (x : Error). Err x) same

  pub bare-refused_begin : (x : Unit {0}) (e : Error) → check_with size ≡ Ok x
      → address_or_0 file u.bases low_pc ≡ Err e → bare (facts_with_program file u line low_pc) ≡ Err e
  bare-refused_begin x e h k =
      ap (bare_with (line_header_of file (line_unit u) line)) k
      ∙ by_program (line_header_of file (line_unit u) line) (ap check_with (sym sized) ∙ h)
    where
      by_program : (r : Result (Option LineHeader) Error) → refusal_of r ≡ Ok x → bare_with r (Err e) ≡ Err e
      by_program (Ok l) h = refl
      by_program (Err d) h = absurd cc

  -- the unit with the address that it begins at
  abbrev begun : ℕ → UnitFacts
  begun a = record u { bases = with_low_pc a u.bases }

  abbrev begun_with : ℕ → List Declaration → Option LineHeader → Result UnitFacts Error
  begun_with a ds l = Ok (record u { bases = with_low_pc a u.bases; table = ds; line_header = l })

  pub bare-begun : (x : Unit {0}) (a : ℕ) → check_with size ≡ Ok x → address_or_0 file u.bases low_pc ≡ Ok a
      → u.table ≡ [] → u.line_header ≡ None → bare (facts_with_program file u line low_pc) ≡ Ok (begun a)
  bare-begun x a h k table program =
      ap (bare_with (line_header_of file (line_unit u) line)) k
      ∙ by_program (line_header_of file (line_unit u) line) (ap check_with (sym sized) ∙ h)
    where
      by_program : (r : Result (Option LineHeader) Error) → refusal_of r ≡ Ok x → bare_with r (Ok a) ≡ Ok (begun a)
      by_program (Ok l) h =
          ap (λ (ds : List Declaration). begun_with a ds None) (sym table)
          ∙ ap (begun_with a u.table) (sym program)
      by_program (Err d) h = absurd cc

-- ---- the declarations

module _ (file : DwarfFile) (u : DebugUnit) (attributes : List RawAttribute) where
  abbrev bases : Bases
  bases = bases_in file.sections.file_type u.encoding (root_values attributes)

  abbrev id : Option ℕ
  id = option_or (dwo_id_in u.kind) (option_and_then dwo_id_of (root_values attributes).dwo_id)

  -- the unit with these declarations, before its line number program
  abbrev with_texts : List Declaration → UnitFacts
  with_texts table =
      facts_with_texts file (facts_without_texts u table bases id) (root_values attributes).name
      (root_values attributes).comp_dir

  by_steps : (table : List Declaration)
      → facts_with_program file (with_texts table) (root_values attributes).line (root_values attributes).low_pc
      ≡ facts_of file u table attributes
  by_steps table =
      facts_by_steps file u table attributes (root_values attributes) (root_values attributes) file.sections.file_type
      bases id (facts_without_texts u table bases id) (with_texts table) refl refl refl refl refl refl refl

  by_parts : (table : List Declaration) (program : Result (Option LineHeader) Error) (begin : Result ℕ Error)
      → bare (and_then program (λ h. with_program_and_begin (with_texts []) h begin))
      ≡ bare (and_then program (λ h. with_program_and_begin (with_texts table) h begin))
  by_parts table (Ok l) (Ok a) = refl
  by_parts table (Ok l) (Err e) = refl
  by_parts table (Err e) begin = refl

  -- what is kept doesn't depend on the declarations
  bare-any_table : (table : List Declaration)
      → bare (facts_of file u [] attributes) ≡ bare (facts_of file u table attributes)
  bare-any_table table =
      ap bare (sym (by_steps []))
      ∙ by_parts table (line_header_of file (line_unit (with_texts [])) (root_values attributes).line)
      (address_or_0 file (with_texts []).bases (root_values attributes).low_pc)
      ∙ ap bare (by_steps table)

module _ (file : DwarfFile) (u : DebugUnit) where
  abbrev unit_table : Result (List Declaration) Error
  unit_table = table_at u.abbrev_offset file.sections.debug_abbrev

  -- the root of a unit that has these declarations, or its refusal
  abbrev root_over : Result (List Declaration) Error → Result Row Error
  root_over table = and_then table (root file.offset_limit u)

  -- and its facts
  abbrev facts_over : Result (List Declaration) Error → Result UnitFacts Error
  facts_over table =
      and_then table (λ t. and_then (root file.offset_limit u t) (λ r. facts_of file u t r.attributes))

  -- of its declarations, the one of its root
  abbrev alone : Result (List Declaration) Error → Result (List Declaration) Error
  alone table = and_then table (λ t. Ok (root_declarations u t))

  by_alone : (table : Result (List Declaration) Error) (ds : List Declaration) → alone table ≡ Ok ds
      → root_over table ≡ root file.offset_limit u ds
  by_alone (Ok t) ds h =
      let same : root_declarations u t ≡ ds = cc in
      sym (root-of_declarations file.offset_limit u t) ∙ ap (root file.offset_limit u) same
  by_alone (Err d) ds h = absurd cc

  -- over the root's declaration alone the root is the same
  pub root-of_alone : {kept : Option (List Declaration)} {ds : List Declaration} {limit : ℕ} {r : Result Row Error}
      → kept ≡ Some ds → IfSome kept (λ ds. alone unit_table ≡ Ok ds) → file.offset_limit ≡ limit
      → root limit u ds ≡ r → root_over unit_table ≡ r
  root-of_alone {kept = None} is has same found = absurd cc
  root-of_alone {kept = Some d} {ds = ds} {limit = limit} is has same found =
      let this : d ≡ ds = cc in
      by_alone unit_table d has ∙ ap (λ n. root n u d) same ∙ ap (root limit u) this ∙ found

  -- over the table that is shared, from the offset that was read
  module _ {offset limit : ℕ} {t lent : List Declaration} (there : offset ≡ u.abbrev_offset)
      (is : table_at offset file.sections.debug_abbrev ≡ Ok t) (shared : lent ≡ t)
      (same : file.offset_limit ≡ limit) where
    by_offset : unit_table ≡ Ok t
    by_offset = ap (λ n. table_at n file.sections.debug_abbrev) (sym there) ∙ is

    by_limit : {r : Result Row Error} → root limit u lent ≡ r → root file.offset_limit u t ≡ r
    by_limit found = ap (λ n. root n u t) same ∙ ap (root limit u) (sym shared) ∙ found

    pub root-of_table : {r : Result Row Error} → root limit u lent ≡ r → root_over unit_table ≡ r
    root-of_table found = ap root_over by_offset ∙ by_limit found

    -- the whole unit, by the attributes of its root
    pub whole-of_root : {r : Row} {attributes : List RawAttribute} {b : Result UnitFacts Error}
        → root limit u lent ≡ Ok r → attributes ≡ r.attributes → facts_of file u t attributes ≡ b
        → unit_facts file u ≡ b
    whole-of_root found of read =
        ap facts_over by_offset
        ∙ ap (λ (o : Result Row Error). and_then o (λ r. facts_of file u t r.attributes)) (by_limit found)
        ∙ ap (λ (xs : List RawAttribute). facts_of file u t xs) (sym of)
        ∙ read

  by_refused : (table : Result (List Declaration) Error) (e : Error) → root_over table ≡ Err e
      → facts_over table ≡ Err e
  by_refused (Ok t) e h = ap (λ (o : Result Row Error). and_then o (λ r. facts_of file u t r.attributes)) h
  by_refused (Err d) e h = let same : d ≡ e = cc in ap (λ (x : Error). Err x) same

  -- a refused root refuses the unit
  pub refused-of_root : {e : Error} → root_over unit_table ≡ Err e → unit_facts file u ≡ Err e
  refused-of_root {e = e} h = by_refused unit_table e h

  by_found : (table : Result (List Declaration) Error) (r : Row) → root_over table ≡ Ok r
      → bare (facts_of file u [] r.attributes) ≡ bare (facts_over table)
  by_found (Ok t) r h =
      bare-any_table file u r.attributes t
      ∙ ap (λ (o : Result Row Error). bare (and_then o (λ r. facts_of file u t r.attributes))) (sym h)
  by_found (Err d) r h = absurd cc

  -- the bare unit, by the attributes of its root
  pub bare-of_root : {r : Row} {attributes : List RawAttribute} {b : Result UnitFacts Error}
      → root_over unit_table ≡ Ok r → attributes ≡ r.attributes → bare (facts_of file u [] attributes) ≡ b
      → bare_unit_facts file u ≡ b
  bare-of_root {r = r} h of read =
      sym (by_found unit_table r h)
      ∙ ap (λ (xs : List RawAttribute). bare (facts_of file u [] xs)) (sym of)
      ∙ read

  by_unit : (table : Result (List Declaration) Error) (r : Row) → root_over table ≡ Ok r
      → (f : UnitFacts) → facts_over table ≡ Ok f → root file.offset_limit f.header f.table ≡ Ok r
  by_unit (Ok t) r h f read =
      root_of_facts file u t r file.offset_limit (Ok f) refl h
      (ap (λ (o : Result Row Error). and_then o (λ r. facts_of file u t r.attributes)) (sym h) ∙ read)
  by_unit (Err d) r h f read = absurd cc

  -- the root that was read is that of the unit with its declarations
  pub root-of_unit : {r : Row} → root_over unit_table ≡ Ok r
      → (f : UnitFacts) → unit_facts file u ≡ Ok f → root file.offset_limit f.header f.table ≡ Ok r
  root-of_unit {r = r} h f read = by_unit unit_table r h f read

  by_bare : (facts : Result UnitFacts Error) (e : Error) → bare facts ≡ Err e → facts ≡ Err e
  by_bare (Ok f) e h = absurd cc
  by_bare (Err d) e h = let same : d ≡ e = cc in ap (λ (x : Error). Err x) same

  -- a unit is refused where the bare one is
  pub refused-of_bare : {r : Row} {attributes : List RawAttribute} {e : Error}
      → root_over unit_table ≡ Ok r → attributes ≡ r.attributes → bare (facts_of file u [] attributes) ≡ Err e
      → unit_facts file u ≡ Err e
  refused-of_bare {e = e} h of read = by_bare (unit_facts file u) e (bare-of_root h of read)
