-- The result of a write, which is refused only when out of memory.
use Rattle.std.specs.Prelude.{◌≡◌, ℕ, List, Result, Ok, Err}
use Rattle.gimli_lines_write_bytes.specs.declared.error.Error.{Error}
use Rattle.gimli_lines_write_bytes.specs.declared.error.Error.TheVariants.{Memory}
use Rattle.gimli_lines_write_bytes.specs.OutputBytes.{WriterContents, append}

-- the bytes are appended to the writer's; a refusal is out of memory, and says nothing of the
-- writer
abbrev pub Appends : {A : Type 0} → Result A Error → WriterContents → WriterContents
    → List ℕ → Type 0
Appends (Ok _) old new bytes = new ≡ append bytes old
Appends (Err e) old new bytes = e ≡ Memory
