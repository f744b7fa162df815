-- Places and stretches as copies, and the values that these hold.
use Rattle.std.specs.Prelude.{◌≡◌, option_map, Result, Ok, Err}
use Rattle.std.specs.String.{string_bytes}
use Rattle.addr2line_lookups.specs.Error.{Error}
use Rattle.addr2line_lookups.specs.Error.TheVariants.{Memory}
use Rattle.addr2line_lookups.specs.Lines.{Location, Stretch}
use Rattle.addr2line_context.specs.declared.owned_places.OwnedLocation.{OwnedLocation}
use Rattle.addr2line_context.specs.declared.owned_places.OwnedStretch.{OwnedStretch}

-- A copy of a value, or out of memory. `see` is what a contract sees of the copy.
abbrev pub CopiesOrNoMemory : {A B : Type 0} → (A → B) → Result A Error → B → Type 0
CopiesOrNoMemory see (Ok x) value = see x ≡ value
CopiesOrNoMemory see (Err e) value = e ≡ Memory

-- the place that a copy holds
abbrev pub location_of : OwnedLocation → Location
location_of l =
    record {
      file = option_map string_bytes l.file;
      line = l.line;
      column = l.column;
      statement = l.statement;
      discriminator = l.discriminator;
    }

-- the stretch that a copy holds
abbrev pub stretch_of : OwnedStretch → Stretch
stretch_of s =
    record { address = s.address; length = s.length; location = location_of s.location }
