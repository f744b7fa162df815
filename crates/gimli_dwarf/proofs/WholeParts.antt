-- A bare unit with the parts that it lacks is the whole one.
use Rattle.std.proofs.Common.{◌≡◌, ℕ, List, Option, Result, Ok, Err, refl, ap, subst, ◌∙◌}
use Rattle.gimli_dwarf_spec.specs.Error.{Error}
use Rattle.gimli_dwarf_spec.specs.View.{View}
use Rattle.gimli_dwarf_spec.specs.Results.{and_then}
use Rattle.gimli_dwarf_spec.specs.Declarations.{Declaration}
use Rattle.gimli_dwarf_spec.specs.TableParsing.{table_at}
use Rattle.gimli_dwarf_spec.specs.EntryRows.{Row}
use Rattle.gimli_dwarf_spec.specs.AttributeValues.{RawAttribute}
use Rattle.gimli_dwarf_spec.specs.Attributes.{Bases}
use Rattle.gimli_dwarf_spec.specs.LineHeaders.{LineHeader}
use Rattle.gimli_dwarf_spec.specs.DwarfFiles.{DwarfFile}
use Rattle.gimli_dwarf_spec.specs.UnitFacts.{UnitFacts, root, facts_of, bases_of, with_low_pc, line_header_of, last_value_of_kind, line_reference_of, is_stmt_list}
use Rattle.gimli_dwarf.specs.Roots.{line_unit}
use Rattle.gimli_dwarf.specs.BareUnits.{bare_facts}
use Rattle.gimli_dwarf.specs.WholeUnits.{IsBareIn, facts_or, whole_facts, with_parts}

module _ (file : DwarfFile) (u : UnitFacts) where
  abbrev bare_of : Result UnitFacts Error → Result UnitFacts Error
  bare_of r = and_then r (λ whole. Ok (bare_facts whole))

  abbrev ok_facts : UnitFacts → Result UnitFacts Error
  ok_facts f = Ok f

  abbrev facts_with : List Declaration → Option View → Option View → Bases → Option ℕ → Option LineHeader → ℕ
      → UnitFacts
  facts_with table name directory b dwo_id h a = record {
    header = u.header;
    table = table;
    name = name;
    comp_dir = directory;
    bases = with_low_pc a b;
    line_header = h;
    dwo_id = dwo_id;
  }

  abbrev with_header : List Declaration → UnitFacts → Result (Option LineHeader) Error → Result UnitFacts Error
  with_header table x r = and_then r (λ h. Ok (record x { table = table; line_header = h }))

  by_header : (table : List Declaration) (name directory : Option View) (b : Bases) (dwo_id program : Option ℕ)
      (r : Result (Option LineHeader) Error) (low_pc : Result ℕ Error)
      → line_header_of file
      (record { address_bytes = u.header.encoding.address_size; directory = directory; name = name }) program ≡ r
      → bare_of (and_then r (λ h. and_then low_pc (λ a. Ok (facts_with table name directory b dwo_id h a))))
      ≡ ok_facts u
      → with_header table u (line_header_of file (line_unit u) program)
      ≡ ok_facts (facts_or u (and_then r (λ h. and_then low_pc (λ a.
      Ok (facts_with table name directory b dwo_id h a)))))
  by_header table name directory b dwo_id program (Ok h) (Ok a) is e =
      let same : bare_facts (facts_with table name directory b dwo_id h a) ≡ u = cc in
      subst (λ (x : UnitFacts). with_header table x (line_header_of file (line_unit x) program)
      ≡ ok_facts (facts_with table name directory b dwo_id h a)) same
      (ap (with_header table (bare_facts (facts_with table name directory b dwo_id h a))) is)
  by_header table name directory b dwo_id program (Ok h) (Err d) is e = absurd cc
  by_header table name directory b dwo_id program (Err d) low_pc is e = absurd cc

  by_facts : (table : List Declaration) (attributes : List RawAttribute)
      → bare_of (facts_of file u.header table attributes) ≡ ok_facts u
      → with_header table u
      (line_header_of file (line_unit u) (last_value_of_kind line_reference_of is_stmt_list attributes))
      ≡ ok_facts (facts_or u (facts_of file u.header table attributes))
  by_facts table attributes e =
      by_header table _ _ (bases_of file.sections.file_type u.header.encoding attributes) _ _ _ _ refl e

  abbrev with_root : List Declaration → Result Row Error → Result UnitFacts Error
  with_root table r =
      and_then r (λ x. with_header table u
      (line_header_of file (line_unit u) (last_value_of_kind line_reference_of is_stmt_list x.attributes)))

  by_root : (table : List Declaration) (r : Result Row Error)
      → bare_of (and_then r (λ x. facts_of file u.header table x.attributes)) ≡ ok_facts u
      → with_root table r ≡ ok_facts (facts_or u (and_then r (λ x. facts_of file u.header table x.attributes)))
  by_root table (Ok r) e = by_facts table r.attributes e
  by_root table (Err d) e = absurd cc

  by_table : (r : Result (List Declaration) Error)
      → bare_of (and_then r (λ table. and_then (root file.offset_limit u.header table) (λ x.
      facts_of file u.header table x.attributes)))
      ≡ ok_facts u
      → and_then r (λ table. with_root table (root file.offset_limit u.header table))
      ≡ ok_facts (facts_or u (and_then r (λ table. and_then (root file.offset_limit u.header table) (λ x.
      facts_of file u.header table x.attributes))))
  by_table (Ok table) e = by_root table (root file.offset_limit u.header table) e
  by_table (Err d) e = absurd cc

  pub parts_of_bare : IsBareIn file u → with_parts file u ≡ ok_facts (whole_facts file u)
  unfolding whole_facts
  parts_of_bare e = by_table (table_at u.header.abbrev_offset file.sections.debug_abbrev) e

  -- what they make of it
  pub same_whole : (new : UnitFacts) → IsBareIn file u → with_parts file u ≡ ok_facts new → new ≡ whole_facts file u
  same_whole new e read = let parts = parts_of_bare e in cc

-- ---- the parts, read one after the other

abbrev pub ok_table : List Declaration → Result (List Declaration) Error
ok_table table = Ok table

abbrev pub ok_row : Row → Result Row Error
ok_row r = Ok r

abbrev pub refused_unit : Error → Result UnitFacts Error
refused_unit e = Err e

module _ (file : DwarfFile) (u : UnitFacts) where
  abbrev with_row : List Declaration → Row → Result UnitFacts Error
  with_row table r =
      with_header file u table u
      (line_header_of file (line_unit u) (last_value_of_kind line_reference_of is_stmt_list r.attributes))

  abbrev with_table : List Declaration → Result UnitFacts Error
  with_table table = and_then (root file.offset_limit u.header table) (with_row table)

  by_declarations : (table : List Declaration)
      → table_at u.header.abbrev_offset file.sections.debug_abbrev ≡ ok_table table
      → with_parts file u ≡ with_table table
  by_declarations table is = ap (λ r. and_then r with_table) is

  by_first_entry : (limit : ℕ) (table : List Declaration) (r : Result Row Error) → file.offset_limit ≡ limit
      → root limit u.header table ≡ r → with_table table ≡ and_then r (with_row table)
  by_first_entry limit table r same is =
      ap (λ n. and_then (root n u.header table) (with_row table)) same ∙ ap (λ x. and_then x (with_row table)) is

  pub parts-refused_root : (limit : ℕ) (table : List Declaration) (e : Error) → file.offset_limit ≡ limit
      → table_at u.header.abbrev_offset file.sections.debug_abbrev ≡ ok_table table
      → root limit u.header table ≡ Err e → with_parts file u ≡ refused_unit e
  parts-refused_root limit table e same is refused =
      by_declarations table is ∙ by_first_entry limit table (Err e) same refused

  module _ (limit : ℕ) (table : List Declaration) (r : Row) (line : Option ℕ) (same : file.offset_limit ≡ limit)
      (is : table_at u.header.abbrev_offset file.sections.debug_abbrev ≡ ok_table table)
      (found : root limit u.header table ≡ ok_row r)
      (named : last_value_of_kind line_reference_of is_stmt_list r.attributes ≡ line) where
    by_line : with_parts file u ≡ with_header file u table u (line_header_of file (line_unit u) line)
    by_line =
        by_declarations table is ∙ by_first_entry limit table (Ok r) same found
        ∙ ap (λ o. with_header file u table u (line_header_of file (line_unit u) o)) named

    pub parts-refused_header : (e : Error) → line_header_of file (line_unit u) line ≡ Err e
        → with_parts file u ≡ refused_unit e
    parts-refused_header e refused = by_line ∙ ap (with_header file u table u) refused
