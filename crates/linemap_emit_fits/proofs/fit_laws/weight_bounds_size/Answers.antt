use Rattle.linemap_emit_fits.proofs.EmissionSums.{weight_bounds_size as bounds}
use Rattle.linemap_emit_fits.proofs.fit_laws.weight_bounds_size.Goals as goal

pub returns : goal.returns
returns c = bounds
