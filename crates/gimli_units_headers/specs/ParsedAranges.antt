-- What contracts see of the fields of a set's header: its offset as a number.
use Rattle.std.specs.Prelude.{ℕ}
use Rattle.gimli_units_headers.specs.ArangeSets as aranges
use Rattle.gimli_units_headers.specs.declared.arange_set.ArangeFields.{ArangeFields}

-- the fields, whose offset counts as this number
abbrev pub arange_fields_of : {O : Type 0} → (O → ℕ) → ArangeFields O
    → aranges.ArangeFields
arange_fields_of count f =
    record { encoding = f.encoding; info_offset = count f.debug_info_offset.0 }
