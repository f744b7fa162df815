-- Weights as far as a `u64` goes.
use Rattle.std.specs.Prelude.{ℕ, ◌+◌, ◌*◌, ◌-◌, ◌^◌, length, min}
use Rattle.linemap_meaning.specs.TableParts.{UnitPart}
use Rattle.linemap_meaning.specs.TableWeight.{text_weight}

abbrev pub saturate : ℕ → ℕ
saturate n = min n (2 ^ 64 - 1)

-- the weight of a unit without its files, functions and sequences
abbrev pub own_weight : UnitPart → ℕ
own_weight u = 1024 + 64 * length u.ranges + text_weight u.directory + text_weight u.name
