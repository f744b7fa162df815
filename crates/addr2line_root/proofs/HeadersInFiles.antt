-- A unit that is read from a file has the header of its line number program in the file.
use Rattle.std.proofs.Common.{◌≡◌, ℕ, List, Option, Some, None, Result, Ok, Err, refl, sym, ap, subst}
use Rattle.std.specs.Prelude.{IfSome}
use Rattle.addr2line_ranges.specs.Error.{Error}
use Rattle.addr2line_ranges.specs.View.{View}
use Rattle.addr2line_ranges.specs.Results.{and_then}
use Rattle.addr2line_ranges.specs.AttributeValues.{RawAttribute}
use Rattle.addr2line_ranges.specs.LineHeaders.{LineHeader}
use Rattle.addr2line_ranges.specs.HeaderParsing.{LineUnit, header_at}
use Rattle.addr2line_ranges.specs.UnitHeaders.{DebugUnit}
use Rattle.addr2line_ranges.specs.Attributes.{Bases}
use Rattle.addr2line_ranges.specs.Declarations.{Declaration}
use Rattle.addr2line_ranges.specs.DwarfFiles.{DwarfFile}
use Rattle.addr2line_ranges.specs.EntryRows.{Row}
use Rattle.addr2line_ranges.specs.TableParsing.{table_at}
use Rattle.addr2line_ranges.specs.UnitFacts.{UnitFacts, in_file, unit_facts, root, facts_of, bases_of, line_header_of, with_low_pc}
use Rattle.addr2line_root.specs.LastPrograms.{HasHeaderInFile}
use Rattle.addr2line_root.proofs.HeaderUnits.{found, header_with_unit}

abbrev read_facts : UnitFacts → Result UnitFacts Error
read_facts facts = Ok facts

abbrev read_header : Option LineHeader → Result (Option LineHeader) Error
read_header h = Ok h

module _ (file : DwarfFile) (u : DebugUnit) (facts : UnitFacts) where
  -- a header is at its offset
  abbrev IsAtOffset : LineUnit → LineHeader → Type 0
  IsAtOffset unit h = header_at file.offset_limit h.offset unit file.sections.debug_line ≡ found h

  is_at_offset : (unit : LineUnit) (offset : ℕ) (h : LineHeader)
      → header_at file.offset_limit offset unit file.sections.debug_line ≡ found h → IsAtOffset unit h
  is_at_offset unit offset h is =
      subst (λ (n : ℕ). header_at file.offset_limit n unit file.sections.debug_line ≡ found h)
      (sym (ap (λ (x : LineHeader). x.offset)
      (header_with_unit file.offset_limit offset unit unit refl file.sections.debug_line h h is is))) is

  of_program : (unit : LineUnit) (program : Option ℕ) (h : Option LineHeader)
      → line_header_of file unit program ≡ read_header h → IfSome h (IsAtOffset unit)
  of_program unit None h is =
      let none : None ≡ h = cc in subst (λ (o : Option LineHeader). IfSome o (IsAtOffset unit)) none tt
  of_program unit (Some offset) h is =
      by (header_at file.offset_limit offset unit file.sections.debug_line) refl is
    where
      by : (r : Result LineHeader Error) → header_at file.offset_limit offset unit file.sections.debug_line ≡ r
          → and_then r (λ x. Ok (Some x)) ≡ read_header h → IfSome h (IsAtOffset unit)
      by (Ok x) at e =
          let some : Some x ≡ h = cc in
          subst (λ (o : Option LineHeader). IfSome o (IsAtOffset unit)) some (is_at_offset unit offset x at)
      by (Err e) at e' = absurd cc

  -- ---- facts

  abbrev facts_with : List Declaration → Option View → Option View → Bases → Option ℕ → Option LineHeader → ℕ
      → UnitFacts
  facts_with table name directory b dwo_id h a = record {
    header = u;
    table = table;
    name = name;
    comp_dir = directory;
    bases = with_low_pc a b;
    line_header = h;
    dwo_id = dwo_id;
  }

  by_header : (table : List Declaration) (name directory : Option View) (b : Bases) (dwo_id program : Option ℕ)
      (r : Result (Option LineHeader) Error) (low_pc : Result ℕ Error)
      → line_header_of file
      (record { address_bytes = u.encoding.address_size; directory = directory; name = name }) program ≡ r
      → and_then r (λ h. and_then low_pc (λ a. Ok (facts_with table name directory b dwo_id h a))) ≡ read_facts facts
      → HasHeaderInFile (in_file file facts)
  by_header table name directory b dwo_id program (Ok h) (Ok a) is e =
      let same : facts_with table name directory b dwo_id h a ≡ facts = cc in
      subst (λ (f : UnitFacts). HasHeaderInFile (in_file file f)) same (of_program _ program h is)
  by_header table name directory b dwo_id program (Ok h) (Err d) is e = absurd cc
  by_header table name directory b dwo_id program (Err d) low_pc is e = absurd cc

  by_facts : (table : List Declaration) (attributes : List RawAttribute)
      → facts_of file u table attributes ≡ read_facts facts → HasHeaderInFile (in_file file facts)
  by_facts table attributes e =
      by_header table _ _ (bases_of file.sections.file_type u.encoding attributes) _ _ _ _ refl e

  by_root : (table : List Declaration) (r : Result Row Error)
      → and_then r (λ x. facts_of file u table x.attributes) ≡ read_facts facts → HasHeaderInFile (in_file file facts)
  by_root table (Ok r) e = by_facts table r.attributes e
  by_root table (Err d) e = absurd cc

  by_table : (r : Result (List Declaration) Error)
      → and_then r (λ table. and_then (root file.offset_limit u table) (λ x. facts_of file u table x.attributes))
      ≡ read_facts facts
      → HasHeaderInFile (in_file file facts)
  by_table (Ok table) e = by_root table (root file.offset_limit u table) e
  by_table (Err d) e = absurd cc

  pub header_in_file : unit_facts file u ≡ read_facts facts → HasHeaderInFile (in_file file facts)
  header_in_file e = by_table (table_at u.abbrev_offset file.sections.debug_abbrev) e
