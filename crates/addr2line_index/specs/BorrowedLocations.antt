-- A place in the source, with its text borrowed, as contracts see it.
use Rattle.std.specs.Prelude.{option_map}
use Rattle.addr2line_spec.specs.Lines.{Location as Place}
use Rattle.addr2line_index.specs.declared.location.Location.{Location}

abbrev pub location_value : Location → Place
location_value l =
    record {
      file = option_map (λ t. t.now) l.file;
      line = l.line;
      column = l.column;
      statement = l.statement;
      discriminator = l.discriminator;
    }
