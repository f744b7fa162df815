-- The lines of a program, by its run and by the texts of its files.
use Rattle.std.proofs.Common.{◌≡◌, ℕ, List, [], ◌∷◌, map, Option, Some, Result, Ok, Err, sym, ap, ◌∙◌}
use Rattle.gimli_lines_rows.specs.Error.{Error}
use Rattle.gimli_lines_rows.specs.LineFiles.{FileFacts}
use Rattle.gimli_lines_rows.specs.LineHeaders.{LineHeader, file_at}
use Rattle.gimli_lines_rows.specs.Runs.{shown_rows}
use Rattle.gimli_lines_rows.specs.ProgramRows.{RemainingRows}
use Rattle.gimli_lines_rows.specs.Results.{and_then, unless, each}
use Rattle.gimli_dwarf.specs.UnitFacts.{UnitInFile}
use Rattle.addr2line_index.specs.Lines.{ProgramRow, Lines, sequences_of_rows}
use Rattle.addr2line_index.specs.PartialLines.{PartialLines, partial_lines}
use Rattle.addr2line_index.specs.FileTexts.{text_of_file, text_of_file_0, files_from_1, texts_of_files}
use Rattle.addr2line_index.specs.UnitLines.{program_row, run_of_program, fault_of_program, with_defined_files, lines_of_program}
use Rattle.addr2line_root.specs.LineProgramRuns.{RunsProgram}

-- file 0 has a text, and one of the others is refused
pub refusal_of_texts : (u : UnitInFile) (h : LineHeader) (text : List ℕ)
    (files : List FileFacts) (d : Error) → text_of_file_0 u h (file_at h 0) ≡ Ok text → files ≡ files_from_1 h
    → each (text_of_file u h) files ≡ Err d → texts_of_files u h ≡ Err d
refusal_of_texts u h text files d first same fault =
    ap (λ (r : Result (List ℕ) Error).
    and_then r (λ t. and_then (each (text_of_file u h) (files_from_1 h)) (λ ts. Ok (t ∷ ts)))) first
    ∙ ap (λ (r : Result (List (List ℕ)) Error). and_then r (λ ts. Ok (text ∷ ts)))
    (ap (each (text_of_file u h)) (sym same) ∙ fault)

-- the lines, once the texts are known
abbrev with_texts : UnitInFile → LineHeader → Result (List (List ℕ)) Error → Result Lines Error
with_texts u h r =
    and_then r (λ files.
    Ok (record {
      sequences = sequences_of_rows (map program_row (shown_rows (run_of_program u.file.offset_limit h).items));
      files = files;
    }))

-- a program is refused by its fault
pub lines_fault : (u : UnitInFile) (h : LineHeader) (d : Error)
    → fault_of_program u.file.offset_limit h ≡ Some d → lines_of_program u h ≡ Err d
lines_fault u h d fault =
    ap (λ (o : Option Error).
    unless o (with_texts u h (texts_of_files u (with_defined_files u.file.offset_limit h))))
    fault

-- without one, what is known of the texts decides
lines_by_texts : (u : UnitInFile) (h header : LineHeader) (rows : RemainingRows)
    (before after : PartialLines) (r : Result (List (List ℕ)) Error)
    → RunsProgram u.file.offset_limit (Ok rows) h before after → header ≡ rows.header
    → texts_of_files u header ≡ r → lines_of_program u h ≡ with_texts u h r
lines_by_texts u h header rows before after r run same texts =
    ap (λ (o : Option Error).
    unless o (with_texts u h (texts_of_files u (with_defined_files u.file.offset_limit h))))
    run.0
    ∙ ap (with_texts u h) (ap (texts_of_files u) (sym (same ∙ run.1)) ∙ texts)

-- one of them is refused
pub lines_textless : (u : UnitInFile) (h header : LineHeader) (rows : RemainingRows)
    (before after : PartialLines) (d : Error) → RunsProgram u.file.offset_limit (Ok rows) h before after
    → header ≡ rows.header → texts_of_files u header ≡ Err d → lines_of_program u h ≡ Err d
lines_textless u h header rows before after d run same texts =
    lines_by_texts u h header rows before after (Err d) run same texts

abbrev ok_lines : Lines → Result Lines Error
ok_lines l = Ok l

-- all are read, and the rows were added to none
pub lines_with_texts : (u : UnitInFile) (h header : LineHeader) (rows : RemainingRows)
    (before after : PartialLines) (texts : List (List ℕ)) (lines : Lines)
    → RunsProgram u.file.offset_limit (Ok rows) h before after → header ≡ rows.header
    → texts_of_files u header ≡ Ok texts → before ≡ partial_lines []
    → ((all : List ProgramRow) → after ≡ partial_lines all
    → lines ≡ record { sequences = sequences_of_rows all; files = texts }) → lines_of_program u h ≡ Ok lines
lines_with_texts u h header rows before after texts lines run same read_texts none made =
    lines_by_texts u h header rows before after (Ok texts) run same read_texts
    ∙ ap ok_lines
    (sym (made (map program_row (shown_rows (run_of_program u.file.offset_limit h).items)) (run.2 [] none)))
