-- A bare unit that was read is what is left of the whole unit of its header.
use Rattle.std.proofs.Common.{◌≡◌, ℕ, List, Option, Result, Ok, Err, refl, sym, ap, subst, ◌∙◌}
use Rattle.addr2line_ranges.specs.Error.{Error}
use Rattle.addr2line_ranges.specs.View.{View}
use Rattle.addr2line_ranges.specs.Results.{and_then}
use Rattle.addr2line_ranges.specs.AttributeValues.{RawAttribute}
use Rattle.addr2line_ranges.specs.LineHeaders.{LineHeader}
use Rattle.addr2line_ranges.specs.UnitHeaders.{DebugUnit}
use Rattle.addr2line_ranges.specs.Attributes.{Bases}
use Rattle.addr2line_ranges.specs.Declarations.{Declaration}
use Rattle.addr2line_ranges.specs.DwarfFiles.{DwarfFile}
use Rattle.addr2line_ranges.specs.EntryRows.{Row}
use Rattle.addr2line_ranges.specs.TableParsing.{table_at}
use Rattle.addr2line_ranges.specs.UnitFacts.{UnitFacts, unit_facts, root, facts_of, bases_of, with_low_pc}
use Rattle.gimli_dwarf.specs.BareUnits.{bare_facts, bare, bare_unit_facts}
use Rattle.gimli_dwarf.specs.WholeUnits.{IsBareIn, facts_or, whole_facts}

abbrev pub read_facts : UnitFacts → Result UnitFacts Error
read_facts u = Ok u

module _ (file : DwarfFile) (h : DebugUnit) (u : UnitFacts) where
  abbrev facts_with : List Declaration → Option View → Option View → Bases → Option ℕ → Option LineHeader → ℕ
      → UnitFacts
  facts_with table name directory b dwo_id program a = record {
    header = h;
    table = table;
    name = name;
    comp_dir = directory;
    bases = with_low_pc a b;
    line_header = program;
    dwo_id = dwo_id;
  }

  by_program : (table : List Declaration) (name directory : Option View) (b : Bases) (dwo_id : Option ℕ)
      (r : Result (Option LineHeader) Error) (low_pc : Result ℕ Error)
      → bare (and_then r (λ p. and_then low_pc (λ a. Ok (facts_with table name directory b dwo_id p a)))) ≡ read_facts u
      → u.header ≡ h
  by_program table name directory b dwo_id (Ok p) (Ok a) e =
      let same : bare_facts (facts_with table name directory b dwo_id p a) ≡ u = cc in
      sym (ap (λ (x : UnitFacts). x.header) same)
  by_program table name directory b dwo_id (Ok p) (Err d) e = absurd cc
  by_program table name directory b dwo_id (Err d) low_pc e = absurd cc

  by_facts : (table : List Declaration) (attributes : List RawAttribute)
      → bare (facts_of file h table attributes) ≡ read_facts u → u.header ≡ h
  by_facts table attributes e = by_program table _ _ (bases_of file.sections.file_type h.encoding attributes) _ _ _ e

  by_root : (table : List Declaration) (r : Result Row Error)
      → bare (and_then r (λ x. facts_of file h table x.attributes)) ≡ read_facts u → u.header ≡ h
  by_root table (Ok r) e = by_facts table r.attributes e
  by_root table (Err d) e = absurd cc

  by_table : (r : Result (List Declaration) Error)
      → bare (and_then r (λ table. and_then (root file.offset_limit h table) (λ x. facts_of file h table x.attributes)))
      ≡ read_facts u
      → u.header ≡ h
  by_table (Ok table) e = by_root table (root file.offset_limit h table) e
  by_table (Err d) e = absurd cc

  module _ (read : bare_unit_facts file h ≡ read_facts u) where
    has_header : u.header ≡ h
    has_header = by_table (table_at h.abbrev_offset file.sections.debug_abbrev) read

    pub is_bare : IsBareIn file u
    is_bare = subst (λ (x : DebugUnit). bare_unit_facts file x ≡ read_facts u) (sym has_header) read

    pub is_whole : unit_facts file h ≡ read_facts (whole_facts file u)
    unfolding whole_facts
    is_whole =
        by (unit_facts file h) read
        ∙ ap (λ (x : DebugUnit). read_facts (facts_or u (unit_facts file x))) (sym has_header)
      where
        by : (r : Result UnitFacts Error) → bare r ≡ read_facts u → r ≡ read_facts (facts_or u r)
        by (Ok f) e = refl
        by (Err d) e = absurd cc
