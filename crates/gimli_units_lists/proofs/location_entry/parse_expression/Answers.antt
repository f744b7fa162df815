use Rattle.gimli_core_readers.proofs.PlaceLemmas.{Goes-on}
use Rattle.gimli_units_lists.proofs.LocationEntryPlaces.{Goes-expression_length}
use Rattle.gimli_units_lists.proofs.location_entry.parse_expression.Goals as goal

pub cut-requires : goal.cut-requires
cut-requires g c =
    Goes-on _ _ _ _ _ (Goes-expression_length _ c.args.encoding) c.requires c.in_ok-length.ensures
