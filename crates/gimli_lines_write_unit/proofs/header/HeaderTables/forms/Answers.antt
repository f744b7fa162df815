use Rattle.std.proofs.Common.{◌≡◌, ◌<◌, map, sym, ap, subst, ◌∙◌}
use Rattle.gimli_lines_write_tables.specs.FileTables.{text_of, file_of, info_of}
use Rattle.gimli_lines_write_unit.specs.HeaderContents.{VersionedTables, header_files, records_source}
use Rattle.gimli_lines_write_spec.specs.HeaderTexts.{form_in}
use Rattle.gimli_lines_write_spec.specs.EntryFields.{WrittenFile}
use Rattle.gimli_lines_write_unit.proofs.KnownTexts.{lengths_of_views}
use Rattle.gimli_lines_write_unit.proofs.FileLists.{listed_files, sources_of_5}
use Rattle.gimli_lines_write_unit.proofs.header.HeaderTables.forms.Goals as goal

pub first_forms-requires : goal.first_forms-requires
first_forms-requires c =
    lengths_of_views c.files-files.result.now c.infos-infos.result.now c.self.inside.tables.now.files
    c.self.inside.tables.now.infos c.files-files.ensures c.infos-infos.ensures c.self.invariant.1

-- the files as they are listed
listed : (c : goal.After-first_forms) → header_files c.self.inside.strings.now c.self.inside.line_strings.now
    c.self.inside.details.has_source (text_of c.self.inside.empty.now) (map file_of c.files-files.result.now)
    (map info_of c.infos-infos.result.now) ≡ c.args.self.now.listed.files
listed c =
    listed_files c.self.inside.strings.now c.self.inside.line_strings.now c.self.inside.details.has_source
    (records_source c.self.inside.tables.now.version c.self.inside.details) (text_of c.self.inside.empty.now)
    c.files-files.result.now c.infos-infos.result.now c.self.inside.tables.now.files c.self.inside.tables.now.infos
    (sources_of_5 c.self.inside.tables.now.version c.self.inside.details.has_source
    (subst (λ n. 4 < n) (sym (ap (λ (t : VersionedTables). t.version) c.self.view_is)) c.requires))
    c.files-files.ensures c.infos-infos.ensures ∙ ap (λ (t : VersionedTables). t.listed.files) c.self.view_is

pub returns-clause-path : goal.returns-clause-path
returns-clause-path c =
    c.first_forms.ensures.path c.self.inside.strings.now c.self.inside.line_strings.now
    ∙ ap (λ fs. form_in (map (λ (f : WrittenFile). f.path) fs)) (listed c)

pub returns-clause-source : goal.returns-clause-source
returns-clause-source c =
    c.first_forms.ensures.source c.self.inside.strings.now c.self.inside.line_strings.now
    ∙ ap (λ fs. form_in (map (λ (f : WrittenFile). f.source) fs)) (listed c)
