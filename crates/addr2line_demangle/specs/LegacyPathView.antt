-- What contracts see of a path.
use Rattle.std.specs.Prelude.{map}
use Rattle.addr2line_demangle.specs.LegacyNames as names
use Rattle.addr2line_demangle.specs.declared.paths.Path.{Path}

abbrev pub path_view : Path → names.MangledPath
path_view p = record { elements = map (λ e. e.now) p.elements.items; suffix = p.suffix.now }
