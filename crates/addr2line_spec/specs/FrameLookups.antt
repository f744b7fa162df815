-- The lookup of frames, over units of any kind that have ranges, and frames or the refusal of them.
use Rattle.std.specs.Prelude.{ℕ, List, [], ◌∷◌, map, Result, Ok, Err}
use Rattle.gimli_lines_machine.specs.Error.{Error}
use Rattle.gimli_lines_machine.specs.Range.{Range}
use Rattle.addr2line_spec.specs.Pairs.{covering_pairs}
use Rattle.addr2line_spec.specs.Frames.{Frame}

-- the first answer that is a refusal or isn't empty; the empty one where all are
abbrev pub first_nonempty : {A : Type 0} → List (Result (List A) Error) → Result (List A) Error
first_nonempty [] = Ok []
first_nonempty (Ok [] ∷ rest) = first_nonempty rest
first_nonempty (Ok (x ∷ xs) ∷ rest) = Ok (x ∷ xs)
first_nonempty (Err e ∷ rest) = Err e

-- the frames of an address: those of the first pair that covers it whose unit has some
abbrev pub frames_at : {U : Type 0} → (U → List Range)
    → (U → ℕ → Result (List Frame) Error) → List U → ℕ → Result (List Frame) Error
frames_at ranges frames us a =
    first_nonempty (map (λ p. frames p.unit a) (covering_pairs ranges us a))
