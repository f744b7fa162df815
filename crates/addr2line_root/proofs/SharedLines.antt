-- The lines of a program are the same for all units of a file that name it under the same circumstances, and whose
-- directories and names have the same bytes.
use Rattle.std.proofs.Common.{◌≡◌, ℕ, Bool, true, false, List, [], ◌∷◌, map, Option, Some, None, is_some, option_map, Result, Ok, refl, sym, ap, ap₂, subst, ◌∙◌}
use Rattle.std.specs.Prelude.{IfSome, nat_le, slice_get, if◌then◌else◌}
use Rattle.addr2line_ranges.specs.Error.{Error}
use Rattle.addr2line_ranges.specs.Range.{Range}
use Rattle.addr2line_ranges.specs.View.{View}
use Rattle.addr2line_ranges.specs.Results.{and_then, each}
use Rattle.addr2line_ranges.specs.LineFiles.{FileFacts, file_named}
use Rattle.addr2line_ranges.specs.LineHeaders.{LineHeader}
use Rattle.addr2line_ranges.specs.Runs.{shown_rows}
use Rattle.addr2line_ranges.specs.DwarfFiles.{DwarfFile}
use Rattle.addr2line_ranges.specs.Roots.{line_unit}
use Rattle.addr2line_ranges.specs.UnitFacts.{UnitFacts, UnitInFile, in_file}
use Rattle.addr2line_ranges.specs.FilePaths.{file_text_of_bytes}
use Rattle.addr2line_ranges.specs.LineIndexes.{CountedLines, counted_lines}
use Rattle.addr2line_ranges.specs.Lines.{sequences_of_rows}
use Rattle.addr2line_ranges.specs.FileTexts.{bytes_of, text_bytes, text_bytes_if_any, directory_of, text_of_file, text_of_file_0, files_from_1, texts_of_files}
use Rattle.addr2line_ranges.specs.UnitLines.{program_row, run_of_program, fault_of_program, with_defined_files, lines_of_program, lines_if_any, lines_of_unit}
use Rattle.addr2line_ranges.specs.UnitRanges.{ranges_of_lines}
use Rattle.addr2line_root.specs.LastPrograms.{UnitTexts, ProgramRun, LastProgram, program_key, unit_texts, HasHeaderInFile, IsProgramOf, IsLastProgramOf, IsLastProgramFor, SharesLines}
use Rattle.addr2line_root.specs.CountedRuns.{CountedUnit}
use Rattle.addr2line_root.specs.RootRanges.{RunsForRanges}
use Rattle.addr2line_root.proofs.HeaderUnits.{with_unit}
use Rattle.addr2line_root.proofs.SharedPrograms.{with_texts, same_text, same_directory, same_of_units, same_ranges}

-- ---- texts

abbrev Text : Type 0
Text = List ℕ

-- the text of a file, once its directory and its path are read
abbrev text_by : Option Text → Result (Option Text) Error → Result Text Error → Result Text Error
text_by unit_directory directory path =
    and_then directory (λ d. and_then path (λ p. Ok (file_text_of_bytes unit_directory d p)))

-- the text of the file that a unit's name is
abbrev text_of_name : Option Text → Option Text → Result Text Error
text_of_name unit_directory None = Ok []
text_of_name unit_directory (Some name) = Ok (file_text_of_bytes unit_directory None name)

name_is_text : (u : UnitInFile) (h : LineHeader) (name : Option View)
    → text_of_file_0 u h (option_map file_named name)
    ≡ text_of_name (option_map bytes_of u.facts.comp_dir) (option_map bytes_of name)
name_is_text u h None = refl
name_is_text u h (Some name) = refl

-- all texts, file 0 first
abbrev all_texts : Result Text Error → Result (List Text) Error → Result (List Text) Error
all_texts first others = and_then first (λ text. and_then others (λ texts. Ok (text ∷ texts)))

same_each : {A B : Type 0} (f g : A → Result B Error) → ((x : A) → f x ≡ g x) → (xs : List A)
    → each f xs ≡ each g xs
same_each f g same [] = refl
same_each {A} {B} f g same (x ∷ xs) =
    ap₂ (λ (r : Result B Error) (s : Result (List B) Error). and_then r (λ y. and_then s (λ ys. Ok (y ∷ ys)))) (same x)
    (same_each f g same xs)

module _ (file : DwarfFile) (a b : UnitFacts) (format : a.bases.encoding.format ≡ b.bases.encoding.format)
    (base : a.bases.str_offsets_base ≡ b.bases.str_offsets_base) (texts : unit_texts a ≡ unit_texts b)
    (offset : ℕ) where
  abbrev u : UnitInFile
  u = in_file file a

  abbrev w : UnitInFile
  w = in_file file b

  same_unit_directory : option_map bytes_of a.comp_dir ≡ option_map bytes_of b.comp_dir
  same_unit_directory = ap (λ (t : UnitTexts). t.directory) texts

  same_name : option_map bytes_of a.name ≡ option_map bytes_of b.name
  same_name = ap (λ (t : UnitTexts). t.name) texts

  -- a header as each of the units has it
  abbrev of_a : LineHeader → LineHeader
  of_a h = with_unit offset (line_unit a) h

  abbrev of_b : LineHeader → LineHeader
  of_b h = with_unit offset (line_unit b) h

  same_file : (h : LineHeader) (f : FileFacts) → text_of_file u (of_a h) f ≡ text_of_file w (of_b h) f
  same_file h f =
      ap (λ (d : Option Text). text_by d (text_bytes_if_any u (directory_of (of_a h) f)) (text_bytes u f.path))
      same_unit_directory
      ∙ ap₂ (text_by (option_map bytes_of b.comp_dir))
      (same_directory file a b format base offset (line_unit a) (line_unit b) h f)
      (same_text file a b format base f.path)

  same_file_0 : (h : LineHeader) (is_4 : Bool)
      → text_of_file_0 u (of_a h) (if is_4 then option_map file_named a.name else slice_get h.files 0)
      ≡ text_of_file_0 w (of_b h) (if is_4 then option_map file_named b.name else slice_get h.files 0)
  same_file_0 h true =
      name_is_text u (of_a h) a.name ∙ ap₂ text_of_name same_unit_directory same_name
      ∙ sym (name_is_text w (of_b h) b.name)
  same_file_0 h false = by (slice_get h.files 0)
    where
      by : (o : Option FileFacts) → text_of_file_0 u (of_a h) o ≡ text_of_file_0 w (of_b h) o
      by None = refl
      by (Some f) = same_file h f

  same_texts : (h : LineHeader) → texts_of_files u (of_a h) ≡ texts_of_files w (of_b h)
  same_texts h =
      ap₂ all_texts (same_file_0 h (nat_le h.encoding.version 4))
      (same_each (text_of_file u (of_a h)) (text_of_file w (of_b h)) (same_file h) (files_from_1 h))

  -- rows, and what ends them, depend on the header alone
  same_lines_of_program : (h : LineHeader) → lines_of_program u (of_a h) ≡ lines_of_program w (of_b h)
  same_lines_of_program h =
      ap (with_texts (sequences_of_rows (map program_row (shown_rows (run_of_program file.offset_limit h).items)))
      (fault_of_program file.offset_limit h))
      (same_texts (with_defined_files file.offset_limit h))

-- ---- lines

-- units of a file whose programs depend on the same, and that have the same texts, have the same lines
pub same_lines : (file : DwarfFile) (a b : UnitFacts) → HasHeaderInFile (in_file file a)
    → HasHeaderInFile (in_file file b) → program_key a ≡ program_key b → unit_texts a ≡ unit_texts b
    → lines_of_unit (in_file file a) ≡ lines_of_unit (in_file file b)
same_lines file a b a_in b_in keys texts =
    same_of_units file a b (lines_if_any (in_file file a)) (lines_if_any (in_file file b)) refl
    (λ format base h. same_lines_of_program file a b format base texts h.offset h) a_in b_in keys

-- ---- the last program

-- it is the last program of a file once it was run for a unit of it
pub program_kept : (u : UnitInFile) (counter : ℕ) (last new : LastProgram) (p : ProgramRun) (ranges : List Range)
    (lines : Result CountedLines Error) → new ≡ record last { program = Some p } → counter ≡ last.counters.name
    → p ≡ record { key = program_key u.facts; texts = unit_texts u.facts; ranges = ranges; lines = lines }
    → ranges ≡ ranges_of_lines (lines_of_unit u) → lines ≡ counted_lines counter (lines_of_unit u) → HasHeaderInFile u
    → IsLastProgramOf u.file new
program_kept u counter last new p ranges lines is name made ranges_are lines_are header =
    let lines_of : p.lines ≡ counted_lines counter (lines_of_unit u) =
    ap (λ (q : ProgramRun). q.lines) made ∙ lines_are in
    let program : IsProgramOf u.file last.counters.name p = record {
      unit = u.facts;
      header_in_file = header;
      has_key = ap (λ (q : ProgramRun). q.key) made;
      has_texts = ap (λ (q : ProgramRun). q.texts) made;
      has_ranges = ap (λ (q : ProgramRun). q.ranges) made ∙ ranges_are;
      has_lines = subst (λ (n : ℕ). p.lines ≡ counted_lines n (lines_of_unit u)) name lines_of;
    } in
    subst (IsLastProgramOf u.file) (sym is) program

-- so it is what the last program of a file is
pub last_is : (file : DwarfFile) (last : LastProgram) (p : ProgramRun) → last.program ≡ Some p
    → IsLastProgramOf file last → IsProgramOf file last.counters.name p
last_is file last p is of = subst (λ (o : Option ProgramRun). IfSome o (IsProgramOf file last.counters.name)) is of

-- and some unit may share it
pub header_of_sharing : (u : UnitInFile) (last : LastProgram) (p : ProgramRun) → last.program ≡ Some p
    → IsLastProgramFor u last → HasHeaderInFile u
header_of_sharing u last p is for = for.1 (ap is_some is)

module _ (u : UnitInFile) (counter : ℕ) (p : ProgramRun) (is : IsProgramOf u.file counter p)
    (header : HasHeaderInFile u) (key : p.key ≡ program_key u.facts) where
  -- its ranges are those of a unit whose program depends on the same
  pub shared_ranges : p.ranges ≡ ranges_of_lines (lines_of_unit u)
  shared_ranges =
      is.has_ranges ∙ same_ranges u.file is.unit u.facts is.header_in_file header (sym is.has_key ∙ key)

  -- and its lines, where the unit has the same texts
  shared_lines : p.texts ≡ unit_texts u.facts → p.lines ≡ counted_lines counter (lines_of_unit u)
  shared_lines texts =
      is.has_lines
      ∙ ap (counted_lines counter)
      (same_lines u.file is.unit u.facts is.header_in_file header (sym is.has_key ∙ key) (sym is.has_texts ∙ texts))

pub runs_shared : (old new : CountedUnit) (counter : ℕ) (p : ProgramRun) → IsProgramOf old.unit.file counter p
    → HasHeaderInFile old.unit → p.key ≡ program_key old.unit.facts → (ranges : List Range)
    (lines : Option (Result CountedLines Error)) → ranges ≡ p.ranges → SharesLines p lines old new
    → RunsForRanges counter ranges lines old new
runs_shared old new counter p is header key ranges None same shares = shares
runs_shared old new counter p is header key ranges (Some lines) same shares = (
  shares.0 ∙ shared_lines old.unit counter p is header key shares.1,
  same ∙ shared_ranges old.unit counter p is header key,
  shares.2,
)
