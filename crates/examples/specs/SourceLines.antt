-- The source line of an address.
use Rattle.std.specs.Prelude.{ℕ, Option, option_and_then, Result, Ok}
use Rattle.addr2line.specs.Results.{◌>>=◌}
use Rattle.addr2line.specs.Error.{Error}
use Rattle.addr2line.specs.Contexts.{Context, location}

-- the line of the place that a context has for an address
abbrev pub source_line : Context → ℕ → Result (Option ℕ) Error
source_line context address = do
  place ← location context address
  Ok (option_and_then (λ l. l.line) place)
