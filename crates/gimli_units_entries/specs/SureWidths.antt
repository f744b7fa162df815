-- Attributes that are read wherever their bytes are there: these are skipped by their widths alone.
use Rattle.std.specs.Prelude.{◌≡◌, ℕ, ◌<◌, ◌≤◌, ◌^◌, ◌==◌, ◌||◌, ◌&&◌, not, Bool, All, Ok}
use Rattle.gimli_core_base.specs.declared.constants.TheConstants.{DW_AT_ranges, DW_AT_stmt_list, DW_FORM_data8, DW_FORM_ref_sig8}
use Rattle.gimli_core_base.specs.declared.common.Encoding.{Encoding}
use Rattle.gimli_core_base.specs.View.{View, after, bytes_left}
use Rattle.gimli_units_forms.specs.Declarations.{Attribute}
use Rattle.gimli_units_forms.specs.AttributeReading.{attribute}
use Rattle.gimli_units_forms.specs.AttributeValues.{RawAttribute}

-- a number that a byte holds
abbrev pub IsByte : ℕ → Type 0
IsByte b = b < 2 ^ 8

-- eight bytes that are any number, and no offset
abbrev pub is_long_number : Attribute → Bool
is_long_number s =
    not (s.name == DW_AT_stmt_list.0 || s.name == DW_AT_ranges.0)
    && (s.form == DW_FORM_data8.0 || s.form == DW_FORM_ref_sig8.0)

-- an attribute is read, and this is left
pub record IsRead (limit : ℕ) (e : Encoding) (s : Attribute) (v w : View) : Type 0 where
  pub found : RawAttribute
  pub reads : attribute limit e s v ≡ Ok (found, w)

-- An attribute has this width, and is read wherever that many bytes are left, if offsets hold the
-- numbers of 32 bits.
pub record IsSure (width : ℕ) (e : Encoding) (s : Attribute) : Type 0 where
  pub at : (limit : ℕ) (v : View) → 2 ^ 32 ≤ limit → All IsByte v.bytes → width ≤ bytes_left v
      → IsRead limit e s v (after width v)
