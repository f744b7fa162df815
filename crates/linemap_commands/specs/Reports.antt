-- How a program ends after an error line.
use Rattle.std.specs.Prelude.{◌≡◌, ℕ, List, Option, false}
use Rattle.std.specs.Io.KnownBytes.{Appends}
use Rattle.linemap_output.specs.WriterBytes.{AppendsPrefix}
use Rattle.linemap_output.specs.declared.ended.Ended.{Ended}

-- status 2; the line is written, or a prefix of it where the write flag is set
pub record EndsAtTarget (line : List ℕ) (old new : Option (List ℕ)) (e : Ended) : Type 0 where
  pub whole : e.write ≡ false → Appends old new line
  pub prefix : AppendsPrefix old new line
  pub status : e.status ≡ 2
  pub read : e.read ≡ false
  pub memory : e.memory ≡ false
