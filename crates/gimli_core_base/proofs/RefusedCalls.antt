-- What a call promises where it hands on a refusal by `?`.
use Rattle.std.proofs.Common.{◌≡◌, ◌≢◌, Result, Ok, Err, ap, sym, ◌∙◌}
use Rattle.std.specs.Result.{IsErrAnd}
use Rattle.gimli_core_base.specs.declared.error.Error.{Error}
use Rattle.gimli_core_base.specs.declared.error.Error.TheVariants.{Memory}
use Rattle.gimli_core_base.specs.Calls.{ReturnsAsOrNoMemory}

-- the refusal d is handed on
abbrev refusal : {B : Type 0} → Error → Result B Error
refusal d = Err d

pub returns_refused : {A B : Type 0} (see : A → B) (r : Result A Error) (read : Result B Error) (d : Error)
    → IsErrAnd r (λ e. e ≡ d) → (d ≢ Memory → read ≡ Err d) → ReturnsAsOrNoMemory see r read
returns_refused see (Ok x) read d h k = absurd h
returns_refused see (Err e) read d h k = λ ne. k (λ is. ne (h ∙ is)) ∙ ap refusal (sym h)
