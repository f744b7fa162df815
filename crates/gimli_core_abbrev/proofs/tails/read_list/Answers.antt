use Rattle.std.proofs.Common.{ap, sym, ◌∙◌}
use Rattle.gimli_core_abbrev.specs.TableLayout.{declaration_list}
use Rattle.gimli_core_abbrev.proofs.TableTails.{match_refused, list_refused, list_begins}
use Rattle.gimli_core_abbrev.proofs.tails.read_list.Goals as goal

pub returns-in_err-list : goal.returns-in_err-list
returns-in_err-list g c =
    let view = g.R.Reader.view in
    match_refused c.from_residual-in_err-list.result _ _ _ c.from_residual-in_err-list.ensures.1
    (λ ne. list_refused (g.R.Offset.ReaderOffset.count c.args.offset.0) c.args.section.now (view c.in_ok-input.input) _
    c.in_ok-input.ensures (ap declaration_list (sym c.borrowed-rest.ensures) ∙ c.in_err-list.ensures ne))

pub returns : goal.returns
returns g c =
    let view = g.R.Reader.view in
    list_begins (g.R.Offset.ReaderOffset.count c.args.offset.0) c.args.section.now (view c.in_ok-input.input)
    c.parse_list.new.input c.in_ok-list.list c.in_ok-new.field-0.value c.in_ok-input.ensures
    (ap declaration_list (sym c.borrowed-rest.ensures) ∙ c.in_ok-list.ensures) c.in_ok-new.ensures.ok
