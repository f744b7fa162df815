-- What a program prints, and how it ends.
use Rattle.std.specs.Prelude.{ℕ, List}

-- what goes to the output and to the error stream, and the exit status
pub record Outcome : Type 0 where
  pub out : List ℕ
  pub err : List ℕ
  pub status : ℕ
