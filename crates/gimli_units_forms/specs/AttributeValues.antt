-- The values of attributes, as contracts see them: numbers and views of bytes.
use Rattle.std.specs.Prelude.{ℕ, ℤ, Bool}
use Rattle.gimli_core_abbrev.specs.View.{View}
use Rattle.gimli_units_forms.specs.declared.value.Attribute.{Attribute}
use Rattle.gimli_units_forms.specs.declared.value.AttributeValue.{AttributeValue}
use Rattle.gimli_units_forms.specs.declared.value.AttributeValue.TheVariants.{Addr, Block, Data1, Data2, Data4, Data8, Data16, Sdata, Udata, Exprloc, Flag, SecOffset, DebugAddrBase, DebugAddrIndex, UnitRef, DebugInfoRef, DebugInfoRefSup, DebugLineRef, DebugLocListsBase, DebugLocListsIndex, RangeListsRef, DebugRngListsBase, DebugRngListsIndex, DebugTypesRef, DebugStrRef, DebugStrRefSup, DebugStrOffsetsBase, DebugStrOffsetsIndex, DebugLineStrRef, String, Language, FileIndex, DwoId}

-- a value, by its kind (DWARF 5, 7.5.5)
pub data RawValue : Type 0 where
  address : ℕ → RawValue
  block : View → RawValue
  data_1 : ℕ → RawValue
  data_2 : ℕ → RawValue
  data_4 : ℕ → RawValue
  data_8 : ℕ → RawValue
  data_16 : ℕ → RawValue
  signed_data : ℤ → RawValue
  unsigned_data : ℕ → RawValue
  expression : View → RawValue
  flag : Bool → RawValue
  section_offset : ℕ → RawValue
  address_base : ℕ → RawValue
  address_index : ℕ → RawValue
  unit_reference : ℕ → RawValue
  info_reference : ℕ → RawValue
  info_reference_sup : ℕ → RawValue
  line_reference : ℕ → RawValue
  location_lists_base : ℕ → RawValue
  location_lists_index : ℕ → RawValue
  range_lists_reference : ℕ → RawValue
  range_lists_base : ℕ → RawValue
  range_lists_index : ℕ → RawValue
  type_reference : ℕ → RawValue
  string_reference : ℕ → RawValue
  string_reference_sup : ℕ → RawValue
  string_offsets_base : ℕ → RawValue
  string_offsets_index : ℕ → RawValue
  line_string_reference : ℕ → RawValue
  string : View → RawValue
  language : ℕ → RawValue
  file_index : ℕ → RawValue
  dwo_id : ℕ → RawValue

-- an attribute: its name, the form of its value, and the value as the form gives it
pub record RawAttribute : Type 0 where
  pub name : ℕ
  pub form : ℕ
  pub value : RawValue

-- a value, with its readers and offsets as these functions see them
abbrev pub raw_value_of : {R O E P : Type 0} → (R → View) → (O → ℕ)
    → AttributeValue R O E P → RawValue
raw_value_of view count (Addr n) = address n
raw_value_of view count (Block r) = block (view r)
raw_value_of view count (Data1 n) = data_1 n
raw_value_of view count (Data2 n) = data_2 n
raw_value_of view count (Data4 n) = data_4 n
raw_value_of view count (Data8 n) = data_8 n
raw_value_of view count (Data16 n) = data_16 n
raw_value_of view count (Sdata n) = signed_data n
raw_value_of view count (Udata n) = unsigned_data n
raw_value_of view count (Exprloc e) = expression (view e.0)
raw_value_of view count (Flag b) = flag b
raw_value_of view count (SecOffset o) = section_offset (count o)
raw_value_of view count (DebugAddrBase o) = address_base (count o.0)
raw_value_of view count (DebugAddrIndex o) = address_index (count o.0)
raw_value_of view count (UnitRef o) = unit_reference (count o.0)
raw_value_of view count (DebugInfoRef o) = info_reference (count o.0)
raw_value_of view count (DebugInfoRefSup o) = info_reference_sup (count o.0)
raw_value_of view count (DebugLineRef o) = line_reference (count o.0)
raw_value_of view count (DebugLocListsBase o) = location_lists_base (count o.0)
raw_value_of view count (DebugLocListsIndex o) = location_lists_index (count o.0)
raw_value_of view count (RangeListsRef o) = range_lists_reference (count o.0)
raw_value_of view count (DebugRngListsBase o) = range_lists_base (count o.0)
raw_value_of view count (DebugRngListsIndex o) = range_lists_index (count o.0)
raw_value_of view count (DebugTypesRef s) = type_reference s.0
raw_value_of view count (DebugStrRef o) = string_reference (count o.0)
raw_value_of view count (DebugStrRefSup o) = string_reference_sup (count o.0)
raw_value_of view count (DebugStrOffsetsBase o) = string_offsets_base (count o.0)
raw_value_of view count (DebugStrOffsetsIndex o) = string_offsets_index (count o.0)
raw_value_of view count (DebugLineStrRef o) = line_string_reference (count o.0)
raw_value_of view count (String r) = string (view r)
raw_value_of view count (Language l) = language l.0
raw_value_of view count (FileIndex n) = file_index n
raw_value_of view count (DwoId i) = dwo_id i.0

-- an attribute, as the same functions see it
abbrev pub raw_attribute_of : {R E O : Type 0} → (R → View) → (O → ℕ) → Attribute R E O
    → RawAttribute
raw_attribute_of view count a =
    record { name = a.name.0; form = a.form.0; value = raw_value_of view count a.value }
