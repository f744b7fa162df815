-- What a contract sees of an attribute in a declaration.
use Rattle.std.specs.Prelude.{ℕ, ℤ, ◌==◌, List, Option, Some, None, if◌then◌else◌}
use Rattle.std.specs.Int.{w64, cast_signed, from_le_bytes}
use Rattle.gimli_core_abbrev.specs.declared.abbreviation.AttributeSpecification.{AttributeSpecification}
use Rattle.gimli_core_abbrev.specs.Declarations.{Attribute}
use Rattle.gimli_core_abbrev.specs.TableParsing.{implicit_const_form}

-- the value that eight bytes hold where the form is that of such values
abbrev pub constant_in : ℕ → List ℕ → Option ℤ
constant_in form bytes =
    if form == implicit_const_form then Some (cast_signed w64 (from_le_bytes w64 bytes)) else None

abbrev pub attribute_view : AttributeSpecification → Attribute
attribute_view a =
    record { name = a.name.0; form = a.form.0; implicit_const = constant_in a.form.0 a.constant }
