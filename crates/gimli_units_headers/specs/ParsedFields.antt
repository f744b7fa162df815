-- What contracts see of the fields of a unit's header: offsets as numbers.
use Rattle.std.specs.Prelude.{ℕ}
use Rattle.gimli_units_headers.specs.UnitHeaders as unit
use Rattle.gimli_units_headers.specs.UnitTypes.{kind_of}
use Rattle.gimli_units_headers.specs.declared.fields.UnitFields.{UnitFields}

-- the fields, whose offsets count as these numbers
abbrev pub fields_of : {O : Type 0} → (O → ℕ) → UnitFields O → unit.HeaderFields
fields_of count f = record {
  encoding = f.encoding;
  kind = kind_of count f.unit_type;
  abbrev_offset = count f.debug_abbrev_offset.0;
}
