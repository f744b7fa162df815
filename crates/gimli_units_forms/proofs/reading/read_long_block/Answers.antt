use Rattle.gimli_core_abbrev.proofs.PlaceLemmas.{Goes-on, Goes-unsigned}
use Rattle.gimli_units_forms.proofs.reading.read_long_block.Goals as goal

pub cut-requires : goal.cut-requires
cut-requires g c = Goes-on _ _ _ _ _ Goes-unsigned c.requires c.in_ok-length.ensures
