-- What a call promises where it hands on a refusal by `?` and takes no memory.
use Rattle.std.proofs.Common.{◌≡◌, Result, Ok, Err, ap, sym, ◌∙◌}
use Rattle.std.specs.Result.{IsErrAnd}
use Rattle.gimli_core_readers.specs.Error.{Error}
use Rattle.gimli_core_readers.specs.Calls.{ReturnsAs}

abbrev refusal : {B : Type 0} → Error → Result B Error
refusal d = Err d

pub exactly_refused : {A B : Type 0} (see : A → B) (r : Result A Error) (read : Result B Error) (d : Error)
    → IsErrAnd r (λ e. e ≡ d) → read ≡ Err d → ReturnsAs see r read
exactly_refused see (Ok x) read d h k = absurd h
exactly_refused see (Err e) read d h k = k ∙ ap refusal (sym h)
