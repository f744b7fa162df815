use Rattle.std.proofs.Common.{false, subst}
use Rattle.std.specs.Prelude.{flat_map}
use Rattle.gimli_lines_write_tables.specs.EntryBytes.{Continues}
use Rattle.gimli_lines_write_unit.specs.HeaderBytes.{bytes_or_refusal, file_refusals}
use Rattle.gimli_lines_write_unit.proofs.FileLists.{no_sources_to_4, files_to_4}
use Rattle.gimli_lines_write_unit.proofs.header.HeaderTables.write_entries_to_4.Goals as goal

pub write_entries-requires : goal.write_entries-requires
write_entries-requires g c =
    no_sources_to_4 c.args.self.now.version c.args.self.now.listed.details.has_source c.requires

pub returns : goal.returns
returns g c =
    subst (λ bytes. Continues c.write_entries.result (g.W.Writer.contents c.args.w.now)
    (g.W.Writer.contents c.write_entries.new.w)
    (bytes_or_refusal (flat_map (file_refusals c.args.encoding false 0x08 0x08) c.args.self.now.listed.files) bytes))
    (files_to_4 (g.W.Writer.contents c.args.w.now).is_big c.args.encoding.format c.args.self.now.listed.files)
    c.write_entries.ensures
