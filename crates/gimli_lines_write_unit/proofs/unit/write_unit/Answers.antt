use Rattle.std.proofs.Common.{sym, ap, subst, ◌∙◌}
use Rattle.gimli_lines_write_tables.specs.EntryBytes.{Continues}
use Rattle.gimli_lines_write_tables.specs.FileTables.{text_of}
use Rattle.gimli_lines_write_spec.specs.HeaderSpelling.{Tables}
use Rattle.gimli_lines_write_unit.specs.HeaderContents.{VersionedTables, header_tables, tables_with, strings_after, line_strings_after, empty_text, empty_form_of, AllKnown}
use Rattle.gimli_lines_write_unit.specs.UnitBytes.{unit_with_length, IsSupported}
use Rattle.gimli_lines_write_unit.proofs.EmptyTexts.{known_with_longer}
use Rattle.gimli_lines_write_unit.proofs.unit.write_unit.Goals as goal

pub new-tables-requires : goal.new-tables-requires
new-tables-requires g c =
    subst (λ t. AllKnown c.empty_text.new.strings c.empty_text.new.line_strings c.args.tables.now c.args.details t)
    (sym c.in_ok-empty.ensures.text)
    (subst (λ l. AllKnown c.empty_text.new.strings l c.args.tables.now c.args.details
    (empty_text c.args.strings.now c.args.line_strings.now (empty_form_of c.args.tables.now c.args.details)))
    (sym c.in_ok-empty.ensures.line_strings)
    (subst (λ s. AllKnown s (line_strings_after (empty_form_of c.args.tables.now c.args.details)
    c.args.line_strings.now) c.args.tables.now c.args.details
    (empty_text c.args.strings.now c.args.line_strings.now (empty_form_of c.args.tables.now c.args.details)))
    (sym c.in_ok-empty.ensures.strings)
    (known_with_longer c.args.strings.now c.args.line_strings.now c.args.tables.now c.args.details c.requires.known)))

pub returns-clause-bytes : goal.returns-clause-bytes
returns-clause-bytes g c =
    subst (λ bytes. Continues c.write_with_tables.result (g.W.Writer.contents c.args.w.now)
    (g.W.Writer.contents c.write_with_tables.new.w) bytes)
    (ap (λ (t : Tables). unit_with_length g.W.Writer.address_of (g.W.Writer.contents c.args.w.now).is_big
    c.args.rows.now.rules t c.args.rows.now.entries)
    (ap (λ (t : VersionedTables). t.listed) c.new-tables.ensures
    ∙ ap (λ s. tables_with s c.empty_text.new.line_strings c.args.tables.now c.args.details
    (text_of c.in_ok-empty.empty)) c.in_ok-empty.ensures.strings
    ∙ ap (λ l. tables_with (strings_after (empty_form_of c.args.tables.now c.args.details) c.args.strings.now) l
    c.args.tables.now c.args.details (text_of c.in_ok-empty.empty)) c.in_ok-empty.ensures.line_strings
    ∙ ap (λ t. tables_with (strings_after (empty_form_of c.args.tables.now c.args.details) c.args.strings.now)
    (line_strings_after (empty_form_of c.args.tables.now c.args.details) c.args.line_strings.now) c.args.tables.now
    c.args.details t) c.in_ok-empty.ensures.text)
    ∙ sym (subst IsSupported c.rules-rules.ensures.value c.in_ok-check_rules.ensures.ok
    (unit_with_length g.W.Writer.address_of (g.W.Writer.contents c.args.w.now).is_big c.args.rows.now.rules
    (header_tables c.args.strings.now c.args.line_strings.now c.args.tables.now c.args.details)
    c.args.rows.now.entries)))
    c.write_with_tables.ensures
