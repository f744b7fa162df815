-- What contracts see of a unit's type: its kind, with numbers for its identifiers and offsets.
use Rattle.std.specs.Prelude.{ℕ}
use Rattle.gimli_units_headers.specs.UnitHeaders.{UnitKind, compilation, type_unit, partial, skeleton, split_compilation, split_type}
use Rattle.gimli_units_headers.specs.declared.fields.UnitType.{UnitType}
use Rattle.gimli_units_headers.specs.declared.fields.UnitType.TheVariants.{Compilation, TypeUnit, Partial, Skeleton, SplitCompilation, SplitType}

-- the kind, whose offsets count as these numbers
abbrev pub kind_of : {O : Type 0} → (O → ℕ) → UnitType O → UnitKind
kind_of count Compilation = compilation
kind_of count (TypeUnit signature offset) = type_unit signature.0 (count offset.0)
kind_of count Partial = partial
kind_of count (Skeleton id) = skeleton id.0
kind_of count (SplitCompilation id) = split_compilation id.0
kind_of count (SplitType signature offset) = split_type signature.0 (count offset.0)
