-- The lines of the error stream, and how a program ends after one.
use Rattle.std.specs.Prelude.{◌≡◌, ℕ, List, [], ◌++◌, Option, true, false, codes}
use Rattle.std.specs.Io.KnownBytes.{Appends, Keeps}
use Rattle.linemap_output.specs.WriterBytes.{AppendsPrefix}
use Rattle.linemap_output.specs.declared.ended.Ended.{Ended}
use Rattle.linemap_output.specs.declared.writing.WriteFault.{WriteFault}
use Rattle.linemap_output.specs.declared.writing.WriteFault.TheVariants.{BrokenPipe, Failed}

-- the program's name, the message in its two pieces, and a line end
abbrev pub error_line : List ℕ → List ℕ → List ℕ
error_line message detail = codes "linemap: " ++ (message ++ (detail ++ codes "\n"))

-- that of a table that is refused by a code, and of one of which nothing is emitted
abbrev pub table_line : List ℕ → List ℕ
table_line code = error_line (codes "table refused: ") code

abbrev pub emission_line : List ℕ → List ℕ
emission_line code = error_line (codes "emit refused: ") code

-- status 1; the line is written, or a prefix of it where the write flag is set
pub record Fails (line : List ℕ) (old new : Option (List ℕ)) (e : Ended) : Type 0 where
  pub whole : e.write ≡ false → Appends old new line
  pub prefix : AppendsPrefix old new line
  pub status : e.status ≡ 1
  pub read : e.read ≡ false

-- out of memory: an error line, status 1 and the memory flag
abbrev pub EndsOutOfMemory : Option (List ℕ) → Option (List ℕ) → Ended → Type 0
EndsOutOfMemory old new e =
    Fails (error_line (codes "out of memory") []) old new e × (e.memory ≡ true)

-- the output failed: an error line, status 1 and the write flag; after a broken pipe no error line
-- and status 0
abbrev pub EndsAtFault : WriteFault → Option (List ℕ) → Option (List ℕ) → Ended → Type 0
EndsAtFault Failed old new e =
    Fails (error_line (codes "error flushing stdout") []) old new e × (e.memory ≡ false)
    × (e.write ≡ true)
EndsAtFault BrokenPipe old new e =
    Keeps old new × (e ≡ record { status = 0; memory = false; read = false; write = true })

-- a read failed, or gave no text: an error line and the read flag
pub record EndsAtRead (status : ℕ) (line : List ℕ)
    (old new : Option (List ℕ)) (e : Ended) : Type 0 where
  pub whole : e.write ≡ false → Appends old new line
  pub prefix : AppendsPrefix old new line
  pub ends : e.status ≡ status
  pub read : e.read ≡ true
  pub memory : e.memory ≡ false
