-- What calls that parse all units ahead say, and the first answers that they leave.
use Rattle.std.specs.Prelude.{◌≡◌, ◌⊎◌, ℕ, take, Result, Err}
use Rattle.addr2line_lookups.specs.Error.{Error}
use Rattle.addr2line_lookups.specs.Error.TheVariants.{Memory}
use Rattle.addr2line_lookups.specs.FirstAnswers.{FirstAnswer, FirstAnswers}
use Rattle.addr2line_lookups.specs.Contexts.{ContextUnit, FileContext}
use Rattle.addr2line_lookups.specs.Histories.{parse_from, parse_all}

-- What the definition says of all units, and the answers after it; or out of memory, and the
-- answers after a walk over some first units.
abbrev pub ParsesOrNoMemory : FileContext
    → (ContextUnit → FirstAnswer → Result (Unit {0}) Error)
    → Result (Unit {0}) Error → FirstAnswers → FirstAnswers → Type 0
ParsesOrNoMemory c parse result old new =
    (parse_all c parse old ≡ (result, new))
    ⊎ ((result ≡ Err Memory)
    × ((n : ℕ) × (new ≡ (parse_from c parse 0 (take n c.context.units) old).1)))
