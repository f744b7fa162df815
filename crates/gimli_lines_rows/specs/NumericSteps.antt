-- Instructions that are read and executed at once, on borrowed bytes.
use Rattle.std.specs.Prelude.{◌≡◌, ℕ, Bool, MatchBool, [], ◌∷◌, Option, Some, None, Result, Ok, Err, if◌then◌else◌}
use Rattle.gimli_lines_machine.specs.Error.{Error}
use Rattle.gimli_lines_machine.specs.View.{View}
use Rattle.gimli_lines_header.specs.LineFiles.{FileFacts}
use Rattle.gimli_lines_header.specs.LineHeaders.{LineHeader}
use Rattle.gimli_lines_machine.specs.declared.rules.LineRules.{LineRules}
use Rattle.gimli_lines_machine.specs.declared.registers.Registers.{Registers}
use Rattle.gimli_lines_machine.specs.LineInstructions.{InstructionOf, file_definition}
use Rattle.gimli_lines_machine.specs.Machine.{registers_after, gives_row, after_row}
use Rattle.gimli_lines_rows.specs.ProgramInstructions.{rules_of}
use Rattle.gimli_lines_rows.specs.ProgramRows.{RemainingRows, Path, next_step, last_row}

-- what an instruction does: the file that it defines, whether it gives a row, and the registers
-- after it
pub record Effect : Type 0 where
  pub file : Option FileFacts
  pub gives_row : Bool
  pub registers : Registers

-- the effect of an instruction that leaves the registers so, with the bytes after it
abbrev pub effect_to : InstructionOf FileFacts → View → Result Registers Error
    → Result (Effect × View) Error
effect_to i w (Ok after) = Ok (
  record { file = file_definition i; gives_row = gives_row i; registers = after },
  w,
)
effect_to i w (Err e) = Err e

-- the effect of what was read, executed
abbrev pub effect_of : LineRules → Registers → Result (InstructionOf FileFacts × View) Error
    → Result (Effect × View) Error
effect_of rules r (Ok p) = effect_to p.0 p.1 (registers_after rules p.0 r)
effect_of rules r (Err e) = Err e

-- the effect of an instruction that defines no file
abbrev pub numeric_effect : Bool → Registers → Effect
numeric_effect b after = record { file = None; gives_row = b; registers = after }

-- An instruction that defines no file was executed, and the result says whether it gives a row;
-- else the registers are as before.
abbrev pub ExecutesAtOnce : Option Bool → Registers → Registers → View
    → Result (Effect × View) Error → Type 0
ExecutesAtOnce (Some b) old new rest meaning = meaning ≡ Ok (numeric_effect b new, rest)
ExecutesAtOnce None old new rest meaning = new ≡ old

-- a reader of rows by its parts
abbrev pub rows_at : LineHeader → Bool → Registers → Registers → View → RemainingRows
rows_at h takes_files r last v = record {
  header = h;
  takes_files = takes_files;
  registers = r;
  last = last;
  rest = v;
}

-- A step that says whether it shows a row; else nothing changes.
abbrev pub StepsAtOnce : ℕ → LineHeader → Option Bool → Registers → Registers → View → Registers
    → Registers → View → Type 0
StepsAtOnce limit h (Some b) r last v r1 last1 w = (takes_files : Bool)
    → next_step limit (rows_at h takes_files r last v)
    ≡ Ok (Some b, rows_at h takes_files r1 last1 w)
StepsAtOnce limit h None r last v r1 last1 w = (r1 ≡ r) × (last1 ≡ last) × (w ≡ v)

-- The way to the next row, after which what holds for it alone is cleared; or as far as steps lead.
abbrev pub RunsToRow : ℕ → Bool → RemainingRows → RemainingRows → Type 0
RunsToRow limit b old new =
    Path limit old (if b then last_row new ∷ [] else []) new
    × MatchBool b (new.registers ≡ after_row (rules_of new.header) new.last) (Unit {0})
