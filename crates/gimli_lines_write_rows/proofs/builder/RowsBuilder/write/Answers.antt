use Rattle.std.proofs.Common.{subst}
use Rattle.gimli_lines_write_rows.specs.BuiltRows.{first_row}
use Rattle.gimli_lines_write_rows.specs.EntryBytes.{entries_bytes, Continues}
use Rattle.gimli_lines_write_rows.proofs.JoinedWrites.{where_written}
use Rattle.gimli_lines_write_rows.proofs.RowsDecoding.{read_back}
use Rattle.gimli_lines_write_rows.proofs.builder.RowsBuilder.write.Goals as goal

pub returns-clause-reads_back : goal.returns-clause-reads_back
returns-clause-reads_back g c =
    let wrote = subst (λ es. Continues c.write_entries.result (g.W.Writer.contents c.args.w.now)
    (g.W.Writer.contents c.write_entries.new.w)
    (entries_bytes g.W.Writer.address_of (g.W.Writer.contents c.args.w.now).is_big c.self.inside.rules
    (first_row c.self.inside.rules) es)) c.as_slice.ensures.value c.write_entries.ensures in
    rw (← c.self.view_is) (where_written c.write_entries.result (g.W.Writer.contents c.args.w.now)
    (g.W.Writer.contents c.write_entries.new.w)
    (entries_bytes g.W.Writer.address_of (g.W.Writer.contents c.args.w.now).is_big c.self.inside.rules
    (first_row c.self.inside.rules) c.self.inside.entries.items) wrote
    (λ h readable. read_back c.self.inside.rules c.self.invariant.buildable c.self.inside.entries.items
    c.self.invariant.in_order readable g.W.Writer.address_of g.met.W.Writer.constants
    (g.W.Writer.contents c.args.w.now) (g.W.Writer.contents c.write_entries.new.w) h))
