use Rattle.std.proofs.Common.{◌≡◌, length}
use Rattle.gimli_units_forms.specs.AttributeReading.{final_form}
use Rattle.gimli_units_forms.proofs.reading.read_form.Given as goal

abbrev pub invariant-loop-form : goal.invariant-loop-form
invariant-loop-form g l =
    final_form l.form.0 (g.R.Reader.view l.reader) ≡ final_form l.fn.form.0 (g.R.Reader.view l.initial.reader)

abbrev pub decreases-loop-form : goal.decreases-loop-form
decreases-loop-form g l = length (g.R.Reader.view l.reader).bytes
