use Rattle.std.proofs.Common.{sym, subst, ◌∙◌}
use Rattle.gimli_core_abbrev.specs.FormWidths.{widths_in, AreWidthsOf}
use Rattle.gimli_core_abbrev.proofs.declaration.Head.new.Goals as goal

pub returns-clause-knows : goal.returns-clause-knows
returns-clause-knows c = λ attributes known. record {
  ranges = c.has_ranges.ensures ∙ known.ranges;
  widths = subst (λ p. AreWidthsOf attributes (widths_in p)) (sym c.widths.ensures) known.widths.widths;
}
