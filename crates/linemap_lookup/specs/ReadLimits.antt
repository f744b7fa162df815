-- The limit of reads, as a number.
use Rattle.std.specs.Prelude.{◌≡◌, ◌^◌}
use Rattle.linemap_lookup.specs.declared.lines.TheConstants.{MAX_TRIES}

-- how often a reader is asked for lines; another time would be a fault
abbrev pub TryLimit : Type 0
TryLimit = MAX_TRIES ≡ 2 ^ 40
