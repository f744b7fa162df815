-- The limit of this crate, as a number.
use Rattle.std.specs.Prelude.{◌≡◌}
use Rattle.linemap_output.specs.declared.writing.TheConstants.{MAX_INTERRUPTIONS}

-- how many interruptions in a row are a fault
abbrev pub InterruptionLimit : Type 0
InterruptionLimit = MAX_INTERRUPTIONS ≡ 1000
