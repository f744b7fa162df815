-- The targets that a command line names.
use Rattle.std.specs.Prelude.{ℕ, ◌==◌, Bool, false, Option, None, Some, if◌then◌else◌}
use Rattle.std.specs.Option.{option_map_or}
use Rattle.linemap_image.specs.TargetEncodings.{is_served}
use Rattle.linemap_image.specs.Format.{Format}
use Rattle.linemap_image.specs.Format.TheVariants.{Dwarf32, Dwarf64}

-- the format of a number of bits
abbrev pub format_of : ℕ → Option Format
format_of bits =
    if bits == 32 then Some Dwarf32 else (if bits == 64 then Some Dwarf64 else None)

-- tables are emitted for the version, the bits of the format and the bytes of an address
abbrev pub is_target : ℕ → ℕ → ℕ → Bool
is_target dwarf bits size =
    option_map_or (λ format. is_served dwarf format size) (format_of bits) false
