-- Laws of names that are found attribute by attribute.
use Rattle.std.specs.Prelude.{◌≡◌, List, None}
use Rattle.gimli_units_entries.specs.AttributeValues.{RawAttribute}
use Rattle.addr2line_ranges.specs.Contexts.{FileContext}
use Rattle.addr2line_ranges.specs.InlinedCalls.{name_by}
use Rattle.addr2line_ranges.specs.Lookups.{FunctionsUnit}
use Rattle.addr2line_names.specs.FunctionNames.{name_of}
use Rattle.addr2line_functions.specs.ContextNames.{known_units, holding_unit, naming_in}

-- The name of an entry that is found in a context, one attribute after the other, is the name of
-- all its attributes.
abbrev pub NamesByAttributes : Type 0
NamesByAttributes =
    (c : FileContext) (f : FunctionsUnit) (attributes : List RawAttribute)
    → name_by (naming_in c f) None attributes
    ≡ name_of (known_units c) (holding_unit f) attributes
