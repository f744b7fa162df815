-- The next of the remaining frames.
use Rattle.std.specs.Prelude.{◌≡◌, List, [], ◌∷◌, Option, Some, None, Result, Ok, Err}
use Rattle.gimli_units_entries.specs.Error.{Error}
use Rattle.gimli_units_entries.specs.Error.TheVariants.{Memory}
use Rattle.addr2line_ranges.specs.Frames.{Frame}

-- The remaining frames were the one that is returned and then those that remain; none is returned
-- where none remained. The only error is out of memory, and then the same frames remain.
abbrev pub NextOf : {A : Type 0} → (A → Frame) → Result (Option A) Error → List Frame → List Frame
    → Type 0
NextOf see (Ok (Some x)) old new = old ≡ see x ∷ new
NextOf see (Ok None) old new = (old ≡ []) × (new ≡ [])
NextOf see (Err e) old new = (e ≡ Memory) × (new ≡ old)
