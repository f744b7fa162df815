-- What counts of a result where refusals don't.
use Rattle.std.specs.Prelude.{◌≡◌, ◌≢◌, Result, Ok, Err}
use Rattle.addr2line_lookups.specs.Error.{Error}
use Rattle.addr2line_lookups.specs.Error.TheVariants.{Memory}

-- out of memory, if it was that, and no other refusal
abbrev pub IsMemoryAlone : Result (Unit {0}) Error → Result (Unit {0}) Error → Type 0
IsMemoryAlone answered (Ok done) = answered ≢ Err Memory
IsMemoryAlone answered (Err e) = (answered ≡ Err Memory) × (e ≡ Memory)
