-- What the rows to come of a program say of its run.
use Rattle.std.proofs.Common.{◌≡◌, ◌≢◌, ℕ, Bool, true, false, cond, List, [], ◌∷◌, ◌++◌, map, Option, Some, None, Result, Ok, Err, refl, sym, ap, ◌∙◌}
use Rattle.std.specs.Prelude.{filter}
use Rattle.std.specs.Option.{option_or}
use Rattle.std.specs.Result.{IsErrAnd}
use Rattle.gimli_lines_rows.specs.Error.{Error}
use Rattle.gimli_lines_rows.specs.Error.TheVariants.{Memory}
use Rattle.gimli_lines_rows.specs.View.{View}
use Rattle.gimli_lines_rows.specs.Repetition.{Listing, fault_in, answer, last_answer}
use Rattle.gimli_lines_rows.specs.LineFiles.{FileFacts}
use Rattle.gimli_lines_rows.specs.LineHeaders.{LineHeader}
use Rattle.gimli_lines_rows.specs.Registers.{Registers}
use Rattle.gimli_lines_rows.specs.Runs.{Execution, is_shown, row_of, shown_rows, files_of}
use Rattle.gimli_lines_rows.specs.ProgramRows.{Row, RemainingRows, header_after, rows_of_run, with_ending, program_run, rows_to_come}
use Rattle.gimli_lines_rows.specs.RowSequences.{registers_of, program_rows}
use Rattle.gimli_lines_rows.specs.RowSinks.{last_header}
use Rattle.gimli_lines_rows.proofs.ProgramHeaders.{ended_items}
use Rattle.addr2line_index.specs.Lines.{ProgramRow}
use Rattle.addr2line_index.specs.PartialLines.{PartialLines, partial_lines}
use Rattle.addr2line_index.specs.UnitLines.{program_row, run_of_program, instructions_of, fault_of_program, with_defined_files}
use Rattle.addr2line_root.specs.LineProgramRuns.{shown_row, AddsRows, RunsProgram}

-- ---- rows and faults

-- rows without a fault
pub no_fault : (xs rows : List Row) (ending : Result Registers Error)
    → map answer xs ++ last_answer ending ≡ map answer rows → (xs ≡ rows) × (fault_in ending ≡ None)
no_fault [] [] (Ok r) e = (refl, refl)
no_fault [] [] (Err d) e = absurd cc
no_fault [] (y ∷ ys) (Ok r) e = absurd cc
no_fault [] (y ∷ ys) (Err d) e = absurd cc
no_fault (x ∷ xs) [] ending e = absurd cc
no_fault (x ∷ xs) (y ∷ ys) ending e =
    let first : x ≡ y = cc in
    let rest : map answer xs ++ last_answer ending ≡ map answer ys = cc in
    let others = no_fault xs ys ending rest in
    let same = others.0 in (cc, others.1)

-- and with one after them
pub a_fault : (xs rows : List Row) (ending : Result Registers Error) (d : Error)
    → map answer xs ++ last_answer ending ≡ map answer rows ++ Err d ∷ [] → fault_in ending ≡ Some d
a_fault [] [] (Ok r) d e = absurd cc
a_fault [] [] (Err x) d e = let same : x ≡ d = cc in ap some same
  where
    some : Error → Option Error
    some x = Some x
a_fault [] (y ∷ ys) (Ok r) d e = absurd cc
a_fault [] (y ∷ ys) (Err x) d e = absurd cc
a_fault (x ∷ xs) [] ending d e = absurd cc
a_fault (x ∷ xs) (y ∷ ys) ending d e =
    let rest : map answer xs ++ last_answer ending ≡ map answer ys ++ Err d ∷ [] = cc in
    a_fault xs ys ending d rest

-- the fault that ends a run is one of execution, else one of reading
fault_of_run : (t : Result View Error) (l : Listing Registers (Execution FileFacts))
    → fault_in (with_ending t l).ending ≡ option_or (fault_in l.ending) (fault_in t)
fault_of_run t l = by_endings t l.ending refl
  where
    by_endings : (t : Result View Error) (ending : Result Registers Error) → l.ending ≡ ending
        → fault_in (with_ending t l).ending ≡ option_or (fault_in l.ending) (fault_in t)
    by_endings (Ok v) (Ok r) e = rw e refl
    by_endings (Ok v) (Err d) e = rw e refl
    by_endings (Err x) (Ok r) e = rw e refl
    by_endings (Err x) (Err d) e = rw e refl

-- ---- the registers of rows

-- a row that may be shown, before others
row_in_front : (b : Bool) (h : LineHeader) (x : Execution FileFacts) (rows : List Row) (xs : List (Execution FileFacts))
    → map registers_of rows ≡ map row_of xs
    → map registers_of (cond b (record { header = h; registers = x.after } ∷ []) [] ++ rows)
    ≡ map row_of (cond b (x ∷ xs) xs)
row_in_front true h x rows xs same = ap (λ (rs : List Registers). x.after ∷ rs) same
row_in_front false h x rows xs same = same

-- rows under their headers, by their registers alone
registers_shown : (takes_files : Bool) (h : LineHeader) (xs : List (Execution FileFacts))
    → map registers_of (rows_of_run takes_files h xs) ≡ shown_rows xs
registers_shown takes_files h [] = refl
registers_shown takes_files h (x ∷ xs) =
    let h1 = header_after takes_files x.instruction h in
    row_in_front (is_shown x) h1 x (rows_of_run takes_files h1 xs) (filter is_shown xs)
    (registers_shown takes_files h1 xs)

shown_registers : (rows : List Row) → map shown_row rows ≡ map program_row (map registers_of rows)
shown_registers [] = refl
shown_registers (r ∷ rows) = ap (λ (rs : List ProgramRow). program_row r.registers ∷ rs) (shown_registers rows)

-- ---- whole programs

-- what a whole program runs
abbrev run_whole : ℕ → LineHeader → Listing Registers (Execution FileFacts)
run_whole limit h = program_run limit h (program_rows h).registers h.program

pub run_items : (limit : ℕ) (h : LineHeader) → (run_whole limit h).items ≡ (run_of_program limit h).items
run_items limit h = ended_items (instructions_of limit h).ending (run_of_program limit h)

-- the rows of a program without a fault
pub rows_of_program : (limit : ℕ) (h : LineHeader) (rows : List Row)
    → rows_to_come limit (program_rows h) ≡ map answer rows
    → (fault_of_program limit h ≡ None)
    × (map shown_row rows ≡ map program_row (shown_rows (run_of_program limit h).items))
rows_of_program limit h rows e =
    let l = run_whole limit h in
    let parts = no_fault (rows_of_run true h l.items) rows l.ending e in (
      sym (fault_of_run (instructions_of limit h).ending (run_of_program limit h)) ∙ parts.1,
      shown_registers rows
          ∙ ap (λ (xs : List Row). map program_row (map registers_of xs)) (sym parts.0)
          ∙ ap (map program_row) (registers_shown true h l.items)
          ∙ ap (λ (xs : List (Execution FileFacts)). map program_row (shown_rows xs)) (run_items limit h),
    )

-- the fault of a program
pub fault_of_rows : (limit : ℕ) (h : LineHeader) (rows : List Row) (d : Error)
    → rows_to_come limit (program_rows h) ≡ map answer rows ++ Err d ∷ [] → fault_of_program limit h ≡ Some d
fault_of_rows limit h rows d e =
    let l = run_whole limit h in
    sym (fault_of_run (instructions_of limit h).ending (run_of_program limit h))
    ∙ a_fault (rows_of_run true h l.items) rows l.ending d e

-- ---- calls

abbrev ok_rows : RemainingRows → Result RemainingRows Error
ok_rows rows = Ok rows

ok_rows_are : (limit : ℕ) (h made : LineHeader) (old : RemainingRows) → made ≡ h
    → ok_rows (program_rows made) ≡ ok_rows old
    → program_rows h ≡ old
ok_rows_are limit h made old same e = let is : program_rows made ≡ old = cc in ap program_rows (sym same) ∙ is

-- the last header of a whole program
last_of_whole : (limit : ℕ) (h : LineHeader) → last_header limit (program_rows h) ≡ with_defined_files limit h
last_of_whole limit h =
    ap (λ (xs : List (Execution FileFacts)). record h { files = h.files ++ files_of xs }) (run_items limit h)

-- the rows of a whole program were added
pub program_adds_rows : {A : Type 0} (limit : ℕ) (x : A) (h made : LineHeader) (old new : RemainingRows)
    (before next : PartialLines) → made ≡ h → ok_rows (program_rows made) ≡ ok_rows old
    → AddsRows {A = A} limit (Ok x) old new before next → RunsProgram limit (Ok new) h before next
program_adds_rows limit x h made old new before next same e added =
    let is : program_rows h ≡ old = ok_rows_are limit h made old same e in
    let parts = rows_of_program limit h added.0 (ap (rows_to_come limit) is ∙ added.1) in (
      parts.0,
      sym added.2 ∙ ap (last_header limit) (sym is) ∙ last_of_whole limit h,
      (λ rows made_of. added.3 rows made_of ∙ ap (λ (xs : List ProgramRow). partial_lines (rows ++ xs)) parts.1),
    )

-- its fault ended them
pub program_fault : (A : Type 0) (limit : ℕ) (r : Result RemainingRows Error) (h made : LineHeader)
    (old new : RemainingRows)
    (before next last : PartialLines) (d : Error) → IsErrAnd r (λ e. e ≡ d) → made ≡ h
    → ok_rows (program_rows made) ≡ ok_rows old → AddsRows {A = A} limit (Err d) old new before next
    → RunsProgram limit r h before last
program_fault A limit (Ok x) h made old new before next last d err same e added = absurd err
program_fault A limit (Err x) h made old new before next last d err same e added = λ ne.
    let is : program_rows h ≡ old = ok_rows_are limit h made old same e in
    let f = added (λ none. ne (err ∙ none)) in
    fault_of_rows limit h f.0 d (ap (rows_to_come limit) is ∙ f.1) ∙ ap (λ (y : Error). Some y) (sym err)

-- no memory for the rows
pub program_without_memory : (limit : ℕ) (r : Result RemainingRows Error) (h : LineHeader) (rows : RemainingRows)
    (before last : PartialLines) (d : Error) → IsErrAnd r (λ e. e ≡ d) → (d ≢ Memory → ok_rows rows ≡ Err d)
    → RunsProgram limit r h before last
program_without_memory limit (Ok x) h rows before last d err none = absurd err
program_without_memory limit (Err x) h rows before last d err none = λ ne. let never =
    none (λ is. ne (err ∙ is)) in absurd cc
