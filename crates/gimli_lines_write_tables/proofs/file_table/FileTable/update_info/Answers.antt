use Rattle.std.proofs.Common.{refl}
use Rattle.std.proofs.lemmas.List.{map-set}
use Rattle.gimli_lines_write_tables.specs.FileTables.{info_of}
use Rattle.gimli_lines_write_tables.proofs.file_table.FileTable.update_info.Goals as goal

pub returns-in-Some : goal.returns-in-Some
returns-in-Some c = rw (← c.self.view_is, c.in-Some.is)
    (rw (c.set_info.ensures, map-set info_of c.self.inside.infos.items c.args.place c.in-Some.info) refl)
