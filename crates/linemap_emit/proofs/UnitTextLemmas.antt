-- The texts of any units are UTF-8.
use Rattle.std.proofs.Common.{List, [], ◌∷◌, map}
use Rattle.std.proofs.lemmas.Str.{IsUtf8-string_bytes}
use Rattle.linemap_table.specs.TableFile.{TableFile}
use Rattle.linemap_table.specs.TableUnit.{TableUnit}
use Rattle.linemap_table.specs.TableViews.{file_part, unit_part}
use Rattle.linemap_emit_fits.specs.EmittedPrograms.{FilesAreUtf8}
use Rattle.linemap_emit_fits.specs.FittingUnits.{AllInUtf8}

files_in_utf8 : (fs : List TableFile) → FilesAreUtf8 (map file_part fs)
files_in_utf8 [] = tt
files_in_utf8 (f ∷ fs) = ((IsUtf8-string_bytes f.directory, IsUtf8-string_bytes f.name), files_in_utf8 fs)

pub all_in_utf8 : (us : List TableUnit) → AllInUtf8 (map unit_part us)
unfolding AllInUtf8
all_in_utf8 [] = tt
all_in_utf8 (u ∷ us) = ((IsUtf8-string_bytes u.directory, files_in_utf8 u.files.items), all_in_utf8 us)
