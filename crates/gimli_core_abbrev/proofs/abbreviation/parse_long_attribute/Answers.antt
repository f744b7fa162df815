use Rattle.gimli_core_abbrev.proofs.ImplicitConstants.{has_constant}
use Rattle.gimli_core_abbrev.proofs.abbreviation.parse_long_attribute.Goals as goal

pub new-requires : goal.new-requires
new-requires g c = has_constant _ _ _ _ c.in_ok-implicit_const_value.ensures
