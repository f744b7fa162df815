use Rattle.std.proofs.Common.{◌≡◌, Bool, ℕ, List, [], ◌++◌, length, sym, ap, subst, ◌∙◌}
use Rattle.std.specs.Prelude.{flat_map}
use Rattle.gimli_lines_write_tables.specs.Spelling.{unsigned_string}
use Rattle.gimli_lines_write_tables.specs.WriteError.{Error}
use Rattle.gimli_lines_write_tables.specs.EntryBytes.{Continues}
use Rattle.gimli_lines_write_tables.specs.FileTables.{text_of}
use Rattle.gimli_lines_write_spec.specs.EntryFields.{Details, spelled_file, file_formats, spelled_formats}
use Rattle.gimli_lines_write_unit.specs.HeaderContents.{VersionedTables, records_source, details_of}
use Rattle.gimli_lines_write_unit.specs.HeaderBytes.{bytes_or_refusal, file_refusals}
use Rattle.gimli_lines_write_unit.proofs.WrittenLists.{then_continues}
use Rattle.gimli_lines_write_unit.proofs.FileLists.{counted_files, sources_of_5}
use Rattle.gimli_lines_write_unit.proofs.header.HeaderTables.write_lists_of_5.Goals as goal

pub write_entries-requires : goal.write_entries-requires
write_entries-requires g c =
    ap (λ (t : VersionedTables). t.listed.details.has_source) c.self.view_is
    ∙ sources_of_5 c.args.self.now.version c.args.self.now.listed.details.has_source c.requires

pub returns : goal.returns
returns g c =
    let fs = c.args.self.now.listed.files in
    let d = details_of c.self.inside.details in
    let refusals : Details → List Error =
    λ d. flat_map (file_refusals c.args.encoding d.has_source c.args.forms.path.0 c.args.forms.source.0) fs in
    let formats : Details → List ℕ = λ d. spelled_formats (file_formats d c.args.forms.path.0 c.args.forms.source.0) in
    let files : Details → Bool → List ℕ = λ d b. flat_map (spelled_file b c.args.encoding.format d) fs in
    let old = g.W.Writer.contents c.args.w.now in
    let new = g.W.Writer.contents c.write_entries.new.w in
    let number : length fs ≡ c.file_count.result =
    ap (λ (t : VersionedTables). length t.listed.files) (sym c.self.view_is)
    ∙ counted_files c.self.inside.strings.now c.self.inside.line_strings.now
    (records_source c.self.inside.tables.now.version c.self.inside.details) (text_of c.self.inside.empty.now)
    c.self.inside.tables.now.files c.self.inside.tables.now.infos c.self.invariant.1
    ∙ sym c.file_count.ensures in
    subst (λ d. Continues c.write_entries.result old new (bytes_or_refusal (refusals d)
    (formats d ++ (unsigned_string (length fs) ++ files d old.is_big))))
    (ap (λ (t : VersionedTables). t.listed.details) c.self.view_is)
    (subst (λ l. Continues c.write_entries.result old new (bytes_or_refusal (refusals d)
    (spelled_formats l ++ (unsigned_string (length fs) ++ files d old.is_big))))
    (c.as_slice.ensures.value ∙ c.in_ok-formats.ensures.ok)
    (subst (λ k. Continues c.write_entries.result old new (bytes_or_refusal (refusals d)
    (spelled_formats c.as_slice.result.now ++ (unsigned_string k ++ files d old.is_big))))
    (sym number)
    (then_continues c.write_entries.result old (g.W.Writer.contents c.write_formats.new.w) new [] (refusals d)
    (λ b. spelled_formats c.as_slice.result.now) (λ b. unsigned_string c.file_count.result ++ files d b)
    c.in_ok-write_formats.ensures
    (then_continues c.write_entries.result (g.W.Writer.contents c.write_formats.new.w)
    (g.W.Writer.contents c.write_uleb128.new.self) new [] (refusals d) (λ b. unsigned_string c.file_count.result)
    (files d) c.in_ok-write_uleb128.ensures c.write_entries.ensures))))
