-- The sequences of a program: its rows, cut after the rows that end a sequence (DWARF 5, 6.2.5.3).
use Rattle.std.specs.Prelude.{◌≡◌, ◌≢◌, ℕ, ◌-◌, Bool, true, false, List, [], ◌∷◌, ◌++◌, map, Option, Some, None, Result, Ok, Err, if◌then◌else◌}
use Rattle.gimli_lines_machine.specs.Error.{Error}
use Rattle.gimli_lines_machine.specs.Error.TheVariants.{Memory}
use Rattle.gimli_lines_machine.specs.View.{View, prefix}
use Rattle.gimli_lines_header.specs.LineHeaders.{LineHeader}
use Rattle.gimli_lines_machine.specs.declared.registers.Registers.{Registers}
use Rattle.gimli_lines_machine.specs.Machine.{start}
use Rattle.gimli_lines_rows.specs.ProgramInstructions.{rules_of}
use Rattle.gimli_lines_machine.specs.Repetition.{answer}
use Rattle.gimli_lines_rows.specs.ProgramRows.{Row, RemainingRows, rows_to_come, Path, next_step}

-- A sequence: its addresses, from its first up to, and without, its end, and the bytes of its
-- instructions.
pub record RowSequence : Type 0 where
  pub start : ℕ
  pub end : ℕ
  pub instructions : View

-- ---- rows

-- the registers of a row
abbrev pub registers_of : Row → Registers
registers_of r = r.registers

-- rows, each up to one that ends a sequence; those after the last such row are in none
abbrev pub pieces_after : List Registers → List Registers → List (List Registers)
pieces_after before [] = []
pieces_after before (r ∷ rest) =
    if r.end_sequence then (before ++ r ∷ []) ∷ pieces_after [] rest
    else pieces_after (before ++ r ∷ []) rest

-- rows, each up to one that ends a sequence
abbrev pub pieces : List Registers → List (List Registers)
pieces rows = pieces_after [] rows

-- the address of the first row that doesn't end the sequence, 0 where there is none
abbrev pub start_of : List Registers → ℕ
start_of [] = 0
start_of (r ∷ rest) = if r.end_sequence then 0 else r.address

-- the address of the last row
abbrev pub end_of : List Registers → ℕ
end_of [] = 0
end_of (r ∷ []) = r.address
end_of (r ∷ s ∷ rest) = end_of (s ∷ rest)

-- ---- readers

-- the rows of these bytes from the start of a sequence on, under a header, where files are taken
-- or aren't
abbrev pub rows_under : Bool → LineHeader → View → RemainingRows
rows_under takes_files h v = record {
  header = h;
  takes_files = takes_files;
  registers = start (rules_of h);
  last = start (rules_of h);
  rest = v;
}

-- the rows of a program from its first on
abbrev pub program_rows : LineHeader → RemainingRows
program_rows h = rows_under true h h.program

-- the rows of instructions under a header that has all files
abbrev pub sequence_rows : LineHeader → View → RemainingRows
sequence_rows h v = rows_under false h v

-- a row under a header
abbrev pub row_under : LineHeader → Registers → Result Row Error
row_under h r = Ok (record { header = h; registers = r })

-- ---- sequences

-- A sequence of these rows: resumed it gives them, and no fault.
pub record IsSequence (limit : ℕ) (h : LineHeader) (rows : List Registers) (q : RowSequence)
    : Type 0 where
  pub starts : q.start ≡ start_of rows
  pub ends : q.end ≡ end_of rows
  pub resumes : rows_to_come limit (sequence_rows h q.instructions) ≡ map (row_under h) rows

-- each of these pieces has its sequence
abbrev pub AreSequences : ℕ → LineHeader → List (List Registers) → List RowSequence
    → Type 0
AreSequences limit h [] [] = Unit {0}
AreSequences limit h (p ∷ ps) (q ∷ qs) = IsSequence limit h p q × AreSequences limit h ps qs
AreSequences limit h [] (q ∷ qs) = ⊥
AreSequences limit h (p ∷ ps) [] = ⊥

-- A program without a fault has a sequence for each piece of its rows, under the header that its
-- instructions lead to; else its fault is answered.
abbrev pub SequencesOf : {A : Type 0} → ℕ → (A → LineHeader × List RowSequence)
    → Result A Error → LineHeader → Type 0
SequencesOf limit see (Ok x) h =
    (rows : List Row) × (rows_to_come limit (program_rows h) ≡ map answer rows)
    × ((end : RemainingRows) × Path limit (program_rows h) rows end
    × (next_step limit end ≡ Ok (None, end)) × ((see x).0 ≡ end.header))
    × AreSequences limit (see x).0 (pieces (map registers_of rows)) (see x).1
SequencesOf limit see (Err e) h = e ≢ Memory → (rows : List Row)
    × (rows_to_come limit (program_rows h) ≡ map answer rows ++ Err e ∷ [])

-- ---- one sequence

-- the address of the first of rows that end no sequence
abbrev pub StartIs : Option ℕ → List Registers → Type 0
StartIs o [] = o ≡ None
StartIs o (r ∷ rest) = (r.end_sequence ≡ false) × (o ≡ Some r.address)

-- rows that end no sequence: the piece goes on
abbrev pub NoEnd : List Registers → Type 0
NoEnd rows = (before more : List Registers) → pieces_after before (rows ++ more)
    ≡ pieces_after (before ++ rows) more

-- rows whose last one ends a sequence: a piece ends with them
abbrev pub EndsOnce : List Registers → Type 0
EndsOnce rows = (before more : List Registers) → pieces_after before (rows ++ more)
    ≡ (before ++ rows) ∷ pieces_after [] more

-- a sequence from one state to another
pub record NextPiece (limit : ℕ) (q : RowSequence) (old new : RemainingRows) : Type 0 where
  pub rows : List Row
  pub path : Path limit old rows new
  pub piece : EndsOnce (map registers_of rows)
  pub starts : q.start ≡ start_of (map registers_of rows)
  pub ends : q.end ≡ end_of (map registers_of rows)
  pub instructions : q.instructions ≡ prefix (new.rest.first - old.rest.first) old.rest
  pub begins : new.registers ≡ start (rules_of new.header)

-- the end of the program, with no end of a sequence before it
pub record NoPiece (limit : ℕ) (old new : RemainingRows) : Type 0 where
  pub rows : List Row
  pub path : Path limit old rows new
  pub none_ends : NoEnd (map registers_of rows)
  pub at_end : next_step limit new ≡ Ok (None, new)

-- The next sequence, none at the end of the program; or its fault, after rows of no sequence.
abbrev pub NextSequence : ℕ → Result (Option RowSequence) Error → RemainingRows
    → RemainingRows → Type 0
NextSequence limit (Ok (Some q)) old new = NextPiece limit q old new
NextSequence limit (Ok None) old new = NoPiece limit old new
NextSequence limit (Err e) old new =
    e ≢ Memory → (rows : List Row) × (rows_to_come limit old ≡ map answer rows ++ Err e ∷ [])
