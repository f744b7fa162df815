use Rattle.std.proofs.Common.{◌≡◌, ◌++◌, ◌∷◌, [], false, ap, subst, ◌∙◌}
use Rattle.std.proofs.lemmas.Result.{on_ok_weaker}
use Rattle.addr2line_spec.specs.Lines.{ProgramRow}
use Rattle.addr2line_index.specs.contracts.sequence.ProgramRow.{the_view}
use Rattle.addr2line_index.specs.PartialLines.{partial_lines, with_row}
use Rattle.addr2line_index.proofs.PartialLineRows.{partial_lines-end, partial_lines-row}
use Rattle.addr2line_index.proofs.builder.LinesBuilder.push.Goals as goal

pub returns-then-row-clause-ok : goal.returns-then-row-clause-ok
returns-then-row-clause-ok c =
    let old = c.args.self.now in
    on_ok_weaker c.end.result
    (λ made rows of.
    subst (λ (r : ProgramRow). c.end.new.self ≡ partial_lines (rows ++ r ∷ [])) c.row.view_is
    (partial_lines-end old c.end.new.self rows (the_view c.row.inside) c.if-row.true made of))
    c.end.ensures.ok

pub returns-else-row-clause-ok : goal.returns-else-row-clause-ok
returns-else-row-clause-ok c =
    let old = c.args.self.now in
    on_ok_weaker c.put.result
    (λ made rows of.
    partial_lines-row old c.put.new.self rows c.args.row
    (subst (λ (r : ProgramRow). r.ends ≡ false) c.row.view_is c.if-row.false)
    (made ∙ ap (λ r. with_row r old) c.line_row.ensures) of)
    c.put.ensures.ok
