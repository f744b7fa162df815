-- What is read of values that may be absent.
use Rattle.std.specs.Prelude.{Option, Some, None, Result, Ok}
use Rattle.gimli_lines_machine.specs.Error.{Error}
use Rattle.gimli_lines_machine.specs.Results.{some_of}

-- what is read of something, if there is something, or the refusal
abbrev pub if_any : {X Y : Type 0} → (X → Result Y Error) → Option X
    → Result (Option Y) Error
if_any read None = Ok None
if_any read (Some x) = some_of (read x)
