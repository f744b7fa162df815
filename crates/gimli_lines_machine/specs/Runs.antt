-- A line number program as it runs: the registers before and after each instruction, and the rows
-- that are shown.
use Rattle.std.specs.Prelude.{Bool, ◌&&◌, not, List, [], ◌∷◌, map, filter, Result, Ok, Err}
use Rattle.gimli_core_readers.specs.Error.{Error}
use Rattle.gimli_core_readers.specs.Repetition.{Listing, no_items, prepend}
use Rattle.gimli_lines_machine.specs.declared.rules.LineRules.{LineRules}
use Rattle.gimli_lines_machine.specs.declared.registers.Registers.{Registers}
use Rattle.gimli_lines_machine.specs.LineInstructions.{InstructionOf, defined_files}
use Rattle.gimli_lines_machine.specs.Machine.{registers_after, gives_row, next_registers, start}

-- an instruction, with the registers before it and as it leaves them
pub record Execution (F : Type 0) : Type 0 where
  pub before : Registers
  pub instruction : InstructionOf F
  pub after : Registers

-- an instruction's part of a run, and what comes after it
abbrev pub run_step : {F : Type 0} → Registers → InstructionOf F → Result Registers Error
    → (Registers → Listing Registers (Execution F)) → Listing Registers (Execution F)
run_step r i (Ok after) rest =
    prepend (record { before = r; instruction = i; after = after } ∷ []) (rest after)
run_step r i (Err e) rest = no_items (Err e)

-- The instructions executed one after the other, each from where the one before it leads: all of
-- them, or those before the first that is refused.
abbrev pub run : {F : Type 0} → LineRules → Registers → List (InstructionOf F)
    → Listing Registers (Execution F)
run rules r [] = no_items (Ok r)
run rules r (i ∷ rest) = run_step r i (registers_after rules i r)
    (λ after. run rules (next_registers rules i after) rest)

-- a whole program
abbrev pub run_of : {F : Type 0} → LineRules → List (InstructionOf F)
    → Listing Registers (Execution F)
run_of rules instructions = run rules (start rules) instructions

-- ---- what a run shows

-- a row that isn't hidden
abbrev pub is_shown : {F : Type 0} → Execution F → Bool
is_shown e = gives_row e.instruction && not e.after.is_hidden

-- the registers of a row
abbrev pub row_of : {F : Type 0} → Execution F → Registers
row_of e = e.after

-- the rows, in order
abbrev pub shown_rows : {F : Type 0} → List (Execution F) → List Registers
shown_rows run_step = map row_of (filter is_shown run_step)

-- the instruction that was executed
abbrev pub instruction_of : {F : Type 0} → Execution F → InstructionOf F
instruction_of e = e.instruction

-- the files that were defined
abbrev pub files_of : {F : Type 0} → List (Execution F) → List F
files_of run_step = defined_files (map instruction_of run_step)
