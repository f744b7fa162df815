use Rattle.gimli_units_forms.proofs.SkippingRuns.{widths-one_run, look-begins_run, nothing-skipped}
use Rattle.gimli_units_forms.proofs.skipping.skips_by_runs.Goals as goal

pub returns : goal.returns
returns c = record { widths = widths-one_run; looks = look-begins_run; nothing = nothing-skipped }
