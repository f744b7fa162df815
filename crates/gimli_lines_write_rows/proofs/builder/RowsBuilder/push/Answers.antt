use Rattle.std.proofs.Common.{◌≡◌, true, sym, subst}
use Rattle.gimli_lines_write_rows.specs.RowsBuilding.{BuilderState}
use Rattle.gimli_lines_write_rows.specs.EntryBytes.{can_come}
use Rattle.gimli_lines_write_rows.proofs.BuiltEntries.{built-push}
use Rattle.gimli_lines_write_rows.proofs.builder.RowsBuilder.push.Goals as goal

pub invariant_of-self-2 : goal.invariant_of-self-2
invariant_of-self-2 c =
    let can : can_come c.self.inside.rules c.self.inside.previous c.args.entry ≡ true =
    subst (λ (b : BuilderState). can_come b.rules b.previous c.args.entry ≡ true) (sym c.self.view_is) c.requires in
    rw (c.in_ok-push.ensures.items, c.after_entry-self-inside.ensures)
    (built-push c.self.inside.rules c.self.inside.entries.items c.self.inside.previous c.args.entry c.self.invariant
    can)
