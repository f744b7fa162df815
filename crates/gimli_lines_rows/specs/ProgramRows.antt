-- The rows of a line number program (DWARF 5, 6.2), each with the header that holds the files known
-- by then.
use Rattle.std.specs.Prelude.{◌≡◌, ◌≢◌, ◌≤◌, ◌⊎◌, ℕ, Bool, ◌&&◌, not, List, [], ◌∷◌, ◌++◌, map, Option, Some, None, Result, Ok, Err, true, false, MatchBool, if◌then◌else◌}
use Rattle.gimli_lines_machine.specs.Error.{Error}
use Rattle.gimli_lines_machine.specs.Error.TheVariants.{Memory}
use Rattle.gimli_lines_machine.specs.View.{View, prefix}
use Rattle.gimli_lines_machine.specs.Repetition.{Listing, answer, last_answer}
use Rattle.gimli_lines_header.specs.LineFiles.{FileFacts}
use Rattle.gimli_lines_header.specs.LineHeaders.{LineHeader, with_file}
use Rattle.gimli_lines_machine.specs.declared.registers.Registers.{Registers}
use Rattle.gimli_lines_machine.specs.LineInstructions.{InstructionOf, define_file}
use Rattle.gimli_lines_machine.specs.Machine.{gives_row, registers_after, next_registers, after_row}
use Rattle.gimli_lines_machine.specs.Runs.{Execution, run, is_shown}
use Rattle.gimli_lines_rows.specs.ProgramInstructions.{rules_of, instructions_in, next_instruction, with_rest}

-- a row, and the header that it is given with
pub record Row : Type 0 where
  pub header : LineHeader
  pub registers : Registers

-- a file that is defined follows the others, where a program takes files
abbrev pub header_with : Bool → FileFacts → LineHeader → LineHeader
header_with takes_files file h = if takes_files then with_file file h else h

-- the same where there is such a file
abbrev pub header_with_any : Bool → Option FileFacts → LineHeader → LineHeader
header_with_any takes_files (Some file) h = header_with takes_files file h
header_with_any takes_files None h = h

-- the header after an instruction
abbrev pub header_after : Bool → InstructionOf FileFacts → LineHeader → LineHeader
header_after takes_files (define_file file) h = header_with takes_files file h
header_after takes_files _ h = h

-- no file of an instruction is taken
abbrev pub TakesNoFileOf : Bool → InstructionOf FileFacts → Type 0
TakesNoFileOf takes_files (define_file file) = takes_files ≡ false
TakesNoFileOf takes_files _ = Unit {0}

-- No file is taken while a program runs: it takes none, or no instruction defines one, as from
-- version 5 on (DWARF 5, 6.2.5.3).
abbrev pub TakesNoFile : Bool → LineHeader → Type 0
TakesNoFile takes_files h = (takes_files ≡ false) ⊎ (5 ≤ h.encoding.version)

-- a row, where one is shown
abbrev pub row_of_execution : LineHeader → Execution FileFacts → List Row
row_of_execution h e = if is_shown e then record { header = h; registers = e.after } ∷ [] else []

-- the rows of what is executed from a header on
abbrev pub rows_of_run : Bool → LineHeader → List (Execution FileFacts) → List Row
rows_of_run takes_files h [] = []
rows_of_run takes_files h (e ∷ rest) =
    row_of_execution (header_after takes_files e.instruction h) e
    ++ rows_of_run takes_files (header_after takes_files e.instruction h) rest

-- ---- programs as they run

-- the fault that ends a run: one of execution, else one of reading
abbrev pub first_fault : {S : Type 0} → Error → Result S Error → Result S Error
first_fault e (Ok s) = Err e
first_fault e (Err d) = Err d

-- a listing that ends with a fault, where there is one
abbrev pub with_ending : {S T X : Type 0} → Result T Error → Listing S X → Listing S X
with_ending (Ok t) l = l
with_ending (Err e) l = record { items = l.items; ending = first_fault e l.ending }

-- The instructions that can be read, executed one after the other from some registers on: up to the
-- end of the program, or to the first fault.
abbrev pub program_run : ℕ → LineHeader → Registers → View
    → Listing Registers (Execution FileFacts)
program_run limit h r v = with_ending (instructions_in limit h v).ending
    (run (rules_of h) r (instructions_in limit h v).items)

-- ---- what a reader of rows has left

-- Its header, whether the program takes files, the registers before the next instruction, the last
-- row, and the bytes from the next instruction on.
pub record RemainingRows : Type 0 where
  pub header : LineHeader
  pub takes_files : Bool
  pub registers : Registers
  pub last : Registers
  pub rest : View

-- the rows of a run, and the fault that ends it
abbrev pub row_answers : Bool → LineHeader → Listing Registers (Execution FileFacts)
    → List (Result Row Error)
row_answers takes_files h l = map answer (rows_of_run takes_files h l.items) ++ last_answer l.ending

-- what a reader answers from here on: the rows, and the fault that ends them
abbrev pub rows_to_come : ℕ → RemainingRows → List (Result Row Error)
rows_to_come limit s =
    row_answers s.takes_files s.header (program_run limit s.header s.registers s.rest)

-- ---- steps

-- the row is shown
abbrev pub is_shown_by : InstructionOf FileFacts → Registers → Bool
is_shown_by i after = gives_row i && not after.is_hidden

-- the state after an instruction that left the registers so, where w follows it
abbrev pub state_after : RemainingRows → InstructionOf FileFacts → View → Registers
    → RemainingRows
state_after s i w after = record {
  header = header_after s.takes_files i s.header;
  takes_files = s.takes_files;
  registers = next_registers (rules_of s.header) i after;
  last = if is_shown_by i after then after else s.last;
  rest = w;
}

-- the step of an instruction, where it is executed to these registers
abbrev pub step_to : RemainingRows → InstructionOf FileFacts → View → Result Registers Error
    → Result (Option Bool × RemainingRows) Error
step_to s i w (Ok after) = Ok (Some (is_shown_by i after), state_after s i w after)
step_to s i w (Err e) = Err e

-- the step of what was read
abbrev pub step_of : RemainingRows → Result (Option (InstructionOf FileFacts × View)) Error
    → Result (Option Bool × RemainingRows) Error
step_of s (Ok None) = Ok (None, s)
step_of s (Ok (Some p)) = step_to s p.0 p.1 (registers_after (rules_of s.header) p.0 s.registers)
step_of s (Err e) = Err e

-- The next instruction, executed: whether it shows a row, and the state after it; none at the end
-- of the program.
abbrev pub next_step : ℕ → RemainingRows → Result (Option Bool × RemainingRows) Error
next_step limit s = step_of s (with_rest (next_instruction limit s.header s.rest))

-- ---- calls

-- A call that takes a step; after a fault no instructions are left, and out of memory changes
-- nothing.
abbrev pub OneStep : ℕ → Result (Option Bool) Error → RemainingRows → RemainingRows
    → Type 0
OneStep limit (Ok o) old new = next_step limit old ≡ Ok (o, new)
OneStep limit (Err e) old new =
    (e ≢ Memory →
    (next_step limit old ≡ Err e) × (new ≡ record old { rest = prefix 0 old.rest }))
    × (e ≡ Memory → new ≡ old)

-- the last row, with the header
abbrev pub last_row : RemainingRows → Row
last_row s = record { header = s.header; registers = s.last }

-- The next row is the first that was to come: where there is none, none is to come; out of memory
-- leaves all to come.
abbrev pub NextRow : ℕ → Result Bool Error → RemainingRows → RemainingRows → Type 0
NextRow limit (Ok b) old new =
    MatchBool b (rows_to_come limit old ≡ Ok (last_row new) ∷ rows_to_come limit new)
    ((rows_to_come limit old ≡ []) × (rows_to_come limit new ≡ []))
NextRow limit (Err e) old new =
    (e ≢ Memory → (rows_to_come limit old ≡ Err e ∷ []) × (rows_to_come limit new ≡ []))
    × (e ≡ Memory → rows_to_come limit new ≡ rows_to_come limit old)

-- Instructions lead from one state to another, and show these rows on the way.
pub data Path (limit : ℕ) : RemainingRows → List Row → RemainingRows → Type 0 where
  stays : (s : RemainingRows) → Path limit s [] s
  shows : (s t u : RemainingRows) (rows : List Row) → next_step limit s ≡ Ok (Some true, t)
      → Path limit t rows u → Path limit s (last_row t ∷ rows) u
  passes : (s t u : RemainingRows) (rows : List Row) → next_step limit s ≡ Ok (Some false, t)
      → Path limit t rows u → Path limit s rows u

-- The way to the next row, after which what holds for it alone is cleared; or to the end of the
-- program.
abbrev pub ToNextRow : ℕ → Result Bool Error → RemainingRows → RemainingRows → Type 0
ToNextRow limit (Ok b) old new =
    Path limit old (if b then last_row new ∷ [] else []) new
    × MatchBool b (new.registers ≡ after_row (rules_of new.header) new.last)
    (next_step limit new ≡ Ok (None, new))
ToNextRow limit (Err e) old new = Unit {0}

-- a row that is lent, by its header and its registers
abbrev pub lent_row : LineHeader → Registers → Row
lent_row h r = record { header = h; registers = r }

-- what lends the next row: its header and its registers, none at the end; out of memory says
-- nothing
abbrev pub LendsRow : {A : Type 0} → (A → LineHeader × Registers) → Result (Option A) Error
    → List (Result Row Error) → Type 0
LendsRow see (Ok None) rows = rows ≡ []
LendsRow see (Ok (Some p)) rows = (rest : List (Result Row Error))
    × (rows ≡ Ok (record { header = (see p).0; registers = (see p).1 }) ∷ rest)
LendsRow see (Err e) rows = e ≢ Memory → rows ≡ Err e ∷ []

-- An instruction is executed: the registers become its meaning, and the result says whether it
-- gives a row; refused, they are as before.
abbrev pub Executes : Result Bool Error → Registers → Registers → Result Registers Error
    → InstructionOf FileFacts → Type 0
Executes (Ok b) old new meaning i = (meaning ≡ Ok new) × (b ≡ gives_row i)
Executes (Err e) old new meaning i = (e ≢ Memory → meaning ≡ Err e) × (new ≡ old)

-- the header after it; refused, it is as before
abbrev pub HeaderAfter : Result Bool Error → Bool → InstructionOf FileFacts → LineHeader
    → LineHeader → Type 0
HeaderAfter (Ok b) takes_files i old new = new ≡ header_after takes_files i old
HeaderAfter (Err e) takes_files i old new = new ≡ old
