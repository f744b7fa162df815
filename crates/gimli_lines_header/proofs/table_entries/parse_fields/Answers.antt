use Rattle.std.proofs.Common.{arith, ap, sym, ◌∙◌, Bool}
use Rattle.std.proofs.lemmas.List.{get_or_default}
use Rattle.gimli_units_headers.proofs.RefusedCalls.{returns_refused}
use Rattle.gimli_lines_header.specs.TableEntries.{entry, no_facts}
use Rattle.gimli_lines_header.proofs.TableLoops.{further, further_next, further_fault, further_end}
use Rattle.gimli_lines_header.proofs.table_entries.parse_fields.Goals as goal

pub loop-format-preserved : goal.loop-format-preserved
loop-format-preserved g c =
    further_next _ c.args.encoding _ c.args.formats.now c.loop-format.format-index _ c.loop-format.fields _ _ _ _
    (omega arith) (get_or_default c.args.formats.now c.loop-format.format-index _ _ (omega arith))
    c.in_ok-read.ensures c.loop-format.invariant

pub returns-in_err-read : goal.returns-in_err-read
unfolding entry
returns-in_err-read g c =
    returns_refused _ c.from_residual.result _ _ c.from_residual.ensures.1
    (λ ne. ap (λ (b : Bool). further g.R.Offset.ReaderOffset.limit c.args.encoding b c.args.formats.now no_facts
    (g.R.Reader.view c.args.input.now)) (sym c.endian-endian.ensures)
    ∙ further_fault _ c.args.encoding _ c.args.formats.now c.loop-format.format-index _ c.loop-format.fields _ _ _
    (omega arith) (get_or_default c.args.formats.now c.loop-format.format-index _ _ (omega arith))
    (c.in_err-read.ensures ne) c.loop-format.invariant)

pub returns : goal.returns
unfolding entry
returns g c =
    ap (λ (b : Bool). further g.R.Offset.ReaderOffset.limit c.args.encoding b c.args.formats.now no_facts
    (g.R.Reader.view c.args.input.now)) (sym c.endian-endian.ensures)
    ∙ further_end _ c.args.encoding _ c.args.formats.now c.loop-format.format-index c.loop-format.fields _ _
    (omega arith) c.loop-format.invariant
