use Rattle.std.proofs.Common.{sym, ap, ◌∙◌, arith}
use Rattle.std.specs.Prelude.{is_some}
use Rattle.gimli_units_forms.specs.FormSpellings.{spelling}
use Rattle.gimli_units_entries.proofs.SureWidthLemmas.{narrow_is_sure, long_is_sure, sixteen_is_sure, constant_is_sure}
use Rattle.gimli_units_entries.proofs.named.sure_width.Goals as goal

pub returns-in-Fixed : goal.returns-in-Fixed
returns-in-Fixed c =
    narrow_is_sure _ _ _ (c.in-Fixed.ensures ∙ ap (spelling c.args.encoding) c.form.ensures)
    (omega (arith, c.if-width-le4.true))

pub returns-in-Fixed-2 : goal.returns-in-Fixed-2
returns-in-Fixed-2 c =
    long_is_sure _ _ _ (c.in-Fixed.ensures ∙ ap (spelling c.args.encoding) c.form.ensures)
    (sym c.is_long_number.ensures ∙ c.if-is_long_number.true)

pub returns-in-Sixteen : goal.returns-in-Sixteen
returns-in-Sixteen c = sixteen_is_sure _ _ (c.in-Sixteen.ensures ∙ ap (spelling c.args.encoding) c.form.ensures)

pub returns-in-Constant : goal.returns-in-Constant
returns-in-Constant c =
    constant_is_sure _ _ (c.in-Constant.ensures ∙ ap (spelling c.args.encoding) c.form.ensures)
    (ap is_some (sym c.implicit_const_value.ensures) ∙ sym c.is_some.ensures ∙ c.if-is_some.true)
