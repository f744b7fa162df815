use Rattle.std.proofs.Common.{sym, ap, subst, ◌∙◌, unwrap_or}
use Rattle.std.specs.Prelude.{All}
use Rattle.gimli_lines_write_tables.specs.EntryBytes.{Continues}
use Rattle.gimli_lines_write_tables.specs.FileTables.{File, Info, text_of, file_of, info_of}
use Rattle.gimli_lines_write_unit.specs.HeaderContents.{VersionedTables, records_source, writes_sources, details_of}
use Rattle.gimli_lines_write_tables.specs.LineStrings.{IsKnown}
use Rattle.gimli_lines_write_spec.specs.EntryFields.{spelled_file}
use Rattle.gimli_lines_write_unit.specs.HeaderBytes.{all_or_refusal, file_refusals}
use Rattle.gimli_lines_write_unit.proofs.KnownTexts.{All-view, lengths_of_views}
use Rattle.gimli_lines_write_unit.proofs.FileLists.{listed_files}
use Rattle.gimli_lines_write_unit.proofs.header.HeaderTables.write_entries.Goals as goal

pub write_files-requires-clause-same_length : goal.write_files-requires-clause-same_length
write_files-requires-clause-same_length g c =
    lengths_of_views c.files-files.result.now c.infos-infos.result.now c.self.inside.tables.now.files
    c.self.inside.tables.now.infos c.files-files.ensures c.infos-infos.ensures c.self.invariant.1

pub write_files-requires-clause-paths : goal.write_files-requires-clause-paths
write_files-requires-clause-paths g c =
    All-view (λ (f : File). IsKnown c.self.inside.strings.now c.self.inside.line_strings.now f.path) file_of
    c.files-files.result.now
    (subst (λ fs. All (λ (f : File). IsKnown c.self.inside.strings.now c.self.inside.line_strings.now f.path) fs)
    (sym c.files-files.ensures) c.self.invariant.0.paths)

pub write_files-requires-clause-sources : goal.write_files-requires-clause-sources
write_files-requires-clause-sources g c = λ present.
    All-view (λ (i : Info). IsKnown c.self.inside.strings.now c.self.inside.line_strings.now
    (unwrap_or i.source (text_of c.self.inside.empty.now))) info_of c.infos-infos.result.now
    (subst (λ is. All (λ (i : Info). IsKnown c.self.inside.strings.now c.self.inside.line_strings.now
    (unwrap_or i.source (text_of c.self.inside.empty.now))) is) (sym c.infos-infos.ensures)
    (c.self.invariant.0.sources (ap writes_sources c.self.view_is ∙ sym c.requires ∙ present)))

pub returns : goal.returns
returns g c =
    subst (λ fs. Continues c.write_files.result (g.W.Writer.contents c.args.w.now)
    (g.W.Writer.contents c.write_files.new.w)
    (all_or_refusal (file_refusals c.args.encoding c.args.details.has_source c.args.forms.path.0 c.args.forms.source.0)
    (spelled_file (g.W.Writer.contents c.args.w.now).is_big c.args.encoding.format (details_of c.args.details)) fs))
    (listed_files c.self.inside.strings.now c.self.inside.line_strings.now c.args.details.has_source
    (records_source c.self.inside.tables.now.version c.self.inside.details) (text_of c.self.inside.empty.now)
    c.files-files.result.now c.infos-infos.result.now c.self.inside.tables.now.files c.self.inside.tables.now.infos
    (c.requires ∙ sym (ap writes_sources c.self.view_is)) c.files-files.ensures c.infos-infos.ensures
    ∙ ap (λ (t : VersionedTables). t.listed.files) c.self.view_is)
    c.write_files.ensures
