use Rattle.std.proofs.Common.{ℕ, map, sym, ap, subst, ◌∙◌}
use Rattle.std.specs.Prelude.{All}
use Rattle.gimli_lines_write_tables.specs.EntryBytes.{Continues}
use Rattle.gimli_lines_write_tables.specs.FileTables.{text_of}
use Rattle.gimli_lines_write_unit.specs.HeaderContents.{VersionedTables, header_text, listed_directories}
use Rattle.gimli_lines_write_tables.specs.LineStrings.{IsKnown}
use Rattle.gimli_lines_write_spec.specs.HeaderSpelling.{spelled_directories}
use Rattle.gimli_lines_write_unit.specs.HeaderBytes.{bytes_or_refusal, directories_refusals}
use Rattle.gimli_lines_write_unit.proofs.KnownTexts.{told_known, told_written}
use Rattle.gimli_lines_write_unit.proofs.header.HeaderTables.write_directories.Goals as goal

pub write_directories-requires : goal.write_directories-requires
write_directories-requires g c =
    subst (λ ts. All (λ t. IsKnown c.self.inside.strings.now c.self.inside.line_strings.now (text_of t)) ts)
    (sym c.listed_directories-directories.ensures)
    (told_known c.self.inside.strings.now c.self.inside.line_strings.now c.args.encoding.version
    c.directories.result.now c.self.inside.tables.now.directories c.directories.ensures.value
    c.self.invariant.0.directories)

pub returns : goal.returns
returns g c =
    subst (λ ds. Continues c.write_directories.result (g.W.Writer.contents c.args.w.now)
    (g.W.Writer.contents c.write_directories.new.w)
    (bytes_or_refusal (directories_refusals c.args.encoding ds)
    (spelled_directories c.args.encoding (g.W.Writer.contents c.args.w.now).is_big ds)))
    (ap (map (λ t. header_text c.self.inside.strings.now c.self.inside.line_strings.now (text_of t)))
    c.listed_directories-directories.ensures
    ∙ told_written c.self.inside.strings.now c.self.inside.line_strings.now c.args.encoding.version
    c.directories.result.now c.self.inside.tables.now.directories c.directories.ensures.value
    ∙ ap (λ (n : ℕ). map (header_text c.self.inside.strings.now c.self.inside.line_strings.now)
    (listed_directories n c.self.inside.tables.now.directories))
    (sym (ap (λ (t : VersionedTables). t.version) c.self.view_is ∙ c.requires))
    ∙ ap (λ (t : VersionedTables). t.listed.directories) c.self.view_is)
    c.write_directories.ensures
