use Rattle.linemap_emit_fits.proofs.EmittedUnitSizes.{tables_fit as fit}
use Rattle.linemap_emit_fits.proofs.fit_laws.tables_fit.Goals as goal

pub returns : goal.returns
returns c = fit
