-- An expression comes after the kind and the fields.
use Rattle.gimli_core_readers.proofs.PlaceLemmas.{Goes-on, Goes-fixed}
use Rattle.gimli_units_lists.proofs.LocationEntryPlaces.{after_fields, Goes-indexes, Goes-index_and_length, Goes-offsets, Goes-addresses, Goes-address_and_length}
use Rattle.gimli_units_lists.proofs.location_entry.parse_kind.Goals as goal

pub parse_expression-requires : goal.parse_expression-requires
parse_expression-requires g c =
    after_fields _ _ _ _ _ _ _ (Goes-indexes _) c.requires c.in_ok-kind.ensures
    c.in_ok-begin-in-DW_LLE_startx_endx.ensures

pub parse_expression-requires-in-DW_LLE_startx_length : goal.parse_expression-requires-in-DW_LLE_startx_length
parse_expression-requires-in-DW_LLE_startx_length g c =
    after_fields _ _ _ _ _ _ _ (Goes-index_and_length _ _) c.requires c.in_ok-kind.ensures
    c.in_ok-begin-in-DW_LLE_startx_length.ensures

pub parse_expression-requires-in-DW_LLE_offset_pair : goal.parse_expression-requires-in-DW_LLE_offset_pair
parse_expression-requires-in-DW_LLE_offset_pair g c =
    after_fields _ _ _ _ _ _ _ Goes-offsets c.requires c.in_ok-kind.ensures c.in_ok-begin-in-DW_LLE_offset_pair.ensures

pub parse_expression-requires-in-DW_LLE_default_location : goal.parse_expression-requires-in-DW_LLE_default_location
parse_expression-requires-in-DW_LLE_default_location g c =
    Goes-on _ _ _ _ _ (Goes-fixed 1) c.requires c.in_ok-kind.ensures

pub parse_expression-requires-in-DW_LLE_start_end : goal.parse_expression-requires-in-DW_LLE_start_end
parse_expression-requires-in-DW_LLE_start_end g c =
    after_fields _ _ _ _ _ _ _ (Goes-addresses _) c.requires c.in_ok-kind.ensures
    c.in_ok-begin-in-DW_LLE_start_end.ensures

pub parse_expression-requires-in-DW_LLE_start_length : goal.parse_expression-requires-in-DW_LLE_start_length
parse_expression-requires-in-DW_LLE_start_length g c =
    after_fields _ _ _ _ _ _ _ (Goes-address_and_length _) c.requires c.in_ok-kind.ensures
    c.in_ok-begin-in-DW_LLE_start_length.ensures
