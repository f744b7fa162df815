-- The text of a unit's file.
use Rattle.std.specs.Prelude.{ℕ, List, Some}
use Rattle.addr2line_paths.specs.FilePaths as paths
use Rattle.linemap_meaning.specs.TableParts.{FilePart, UnitPart}

-- its unit's directory, its own directory and its name, joined
abbrev pub file_text : UnitPart → FilePart → List ℕ
file_text u f = paths.file_text (Some u.directory) (Some f.directory) f.name
