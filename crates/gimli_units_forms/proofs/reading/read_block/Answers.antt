use Rattle.gimli_core_abbrev.proofs.PlaceLemmas.{Goes-on, Goes-fixed}
use Rattle.gimli_units_forms.proofs.reading.read_block.Goals as goal

pub cut-requires : goal.cut-requires
cut-requires g c = Goes-on _ _ _ _ _ (Goes-fixed c.args.width) c.requires.in_reader c.in_ok-length.ensures.value
