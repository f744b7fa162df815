-- What giving rows to a sink makes of it, and of what is left of them.
use Rattle.std.specs.Prelude.{◌≡◌, ◌≢◌, ◌⊎◌, ℕ, Bool, false, not, List, [], ◌∷◌, ◌++◌, map, Result, Ok, Err, if◌then◌else◌}
use Rattle.gimli_lines_machine.specs.Error.{Error}
use Rattle.gimli_lines_machine.specs.Error.TheVariants.{Memory}
use Rattle.gimli_lines_machine.specs.Repetition.{answer}
use Rattle.gimli_lines_machine.specs.Runs.{files_of}
use Rattle.gimli_lines_machine.specs.declared.registers.Registers.{Registers}
use Rattle.gimli_lines_header.specs.LineFiles.{FileFacts}
use Rattle.gimli_lines_header.specs.LineHeaders.{LineHeader}
use Rattle.gimli_lines_rows.specs.ProgramRows.{Row, RemainingRows, Path, program_run, rows_to_come, last_row}

-- ---- sinks

-- A sink that has taken some rows takes these after them: whatever it had taken before, it has then
-- taken that and these.
abbrev pub Takes : {S K : Type 0} → (S → List K → Type 0) → S → S → List K → Type 0
Takes {K = K} HasTaken old new more = (rows : List K) → HasTaken old rows
    → HasTaken new (rows ++ more)

-- rows in the form in which a sink keeps them
abbrev pub in_form : {K : Type 0} → (Registers → K) → List Row → List K
in_form form rows = map (λ (r : Row). form r.registers) rows

-- The row of these registers was given to a sink, where it is shown; refused, the sink has taken no
-- more.
abbrev pub GivesRow : {A S K : Type 0} → (Registers → K) → (S → List K → Type 0)
    → Result A Error → Registers → S → S → Type 0
GivesRow form HasTaken (Ok x) r before after =
    Takes HasTaken before after (if not r.is_hidden then form r ∷ [] else [])
GivesRow {K = K} form HasTaken (Err e) r before after =
    (e ≡ Memory) × (r.is_hidden ≡ false)
    × ((rows : List K) → HasTaken before rows → HasTaken after rows)

-- ---- headers

-- the header with further files, where a program takes files
abbrev pub with_files : Bool → List FileFacts → LineHeader → LineHeader
with_files takes_files files h = if takes_files then record h { files = h.files ++ files } else h

-- the header after all instructions to come
abbrev pub last_header : ℕ → RemainingRows → LineHeader
last_header limit s =
    with_files s.takes_files
    (files_of (program_run limit s.header s.registers s.rest).items) s.header

-- ---- calls

-- the state with another last row, which the rows to come don't depend on
abbrev pub with_last : Registers → RemainingRows → RemainingRows
with_last r s = record s { last = r }

-- Instructions were executed, and the sink has taken their rows; where it refused one, that is the
-- last row.
abbrev pub GivesOnTheWay : {A S K : Type 0} → ℕ → (Registers → K) → (S → List K → Type 0)
    → Result A Error → RemainingRows → RemainingRows → S → S → Type 0
GivesOnTheWay limit form HasTaken (Ok x) old new before after =
    (rows : List Row) × ((r : Registers) × Path limit old rows (with_last r new))
    × Takes HasTaken before after (in_form form rows)
GivesOnTheWay limit form HasTaken (Err e) old new before after =
    (e ≡ Memory) × ((rows : List Row) × Path limit old (rows ++ last_row new ∷ []) new
    × Takes HasTaken before after (in_form form rows))

-- The sink has taken all rows that were to come, and the header is the one after all instructions.
-- Or it has taken the rows before the fault that ends them. Or, out of memory, it has taken some:
-- the others are still to come, but for the row that it refused, which is the last row.
abbrev pub GivesRows : {A S K : Type 0} → ℕ → (Registers → K) → (S → List K → Type 0)
    → Result A Error → RemainingRows → RemainingRows → S → S → Type 0
GivesRows limit form HasTaken (Ok x) old new before after =
    (rows : List Row) × Takes HasTaken before after (in_form form rows)
    × (rows_to_come limit old ≡ map answer rows) × (rows_to_come limit new ≡ [])
    × (last_header limit old ≡ new.header)
GivesRows limit form HasTaken (Err e) old new before after =
    (rows : List Row) × Takes HasTaken before after (in_form form rows)
    × (e ≢ Memory → (rows_to_come limit old ≡ map answer rows ++ Err e ∷ [])
    × (rows_to_come limit new ≡ []))
    × (e ≡ Memory → (rows_to_come limit old ≡ map answer rows ++ rows_to_come limit new)
    ⊎ (rows_to_come limit old ≡ map answer rows ++ Ok (last_row new) ∷ rows_to_come limit new))

-- Refused, the answer is the fault that ends the rows, or the sink refused the last row.
abbrev pub RefusedByRows : ℕ → Error → RemainingRows → RemainingRows → Type 0
RefusedByRows limit e old new = (rows : List Row)
    × ((rows_to_come limit old ≡ map answer rows ++ Err e ∷ [])
    ⊎ (rows_to_come limit old ≡ map answer rows ++ Ok (last_row new) ∷ rows_to_come limit new))
