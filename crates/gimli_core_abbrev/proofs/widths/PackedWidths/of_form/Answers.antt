use Rattle.gimli_core_abbrev.proofs.FormRows.{row-small, row-width}
use Rattle.gimli_core_abbrev.proofs.widths.PackedWidths.of_form.Goals as goal

pub returns-then-row-lt-FORMS-clause-small : goal.returns-then-row-lt-FORMS-clause-small
returns-then-row-lt-FORMS-clause-small c = row-small c.args.form.0 _ c.if-row-lt-FORMS.true

pub returns-then-row-lt-FORMS-clause-width : goal.returns-then-row-lt-FORMS-clause-width
returns-then-row-lt-FORMS-clause-width c = λ e. row-width e c.args.form.0 _ c.if-row-lt-FORMS.true
