-- Entries as they are written (DWARF 5, 7.5.2 and 7.5.3): the code of a declaration, and the values
-- that it describes.
use Rattle.std.specs.Prelude.{◌≡◌, ℕ, ◌^◌, ◌<◌, ◌==◌, ◌||◌, nat_le, Bool, true, false, List, [], ◌∷◌, ◌++◌, map, flat_map, Option, Some, None, if◌then◌else◌}
use Rattle.gimli_lines_write_bytes.specs.TheConstants.{DW_FORM_addr, DW_FORM_ref4, DW_FORM_sec_offset, DW_FORM_strp, DW_FORM_udata}
use Rattle.gimli_lines_write_bytes.specs.TheConstants.{DW_AT_abstract_origin, DW_AT_call_column, DW_AT_call_file, DW_AT_call_line, DW_AT_comp_dir, DW_AT_low_pc, DW_AT_name, DW_AT_ranges, DW_AT_stmt_list, DW_TAG_compile_unit, DW_TAG_inlined_subroutine, DW_TAG_subprogram}
use Rattle.gimli_lines_write_bytes.specs.Encoding.{Encoding}
use Rattle.gimli_lines_write_bytes.specs.FormatSizes.{word_size}
use Rattle.gimli_lines_header.specs.Declarations.{Attribute, Declaration}
use Rattle.gimli_lines_write_bytes.specs.Fixed.{number_bytes}
use Rattle.gimli_lines_write_bytes.specs.Spelling.{unsigned_string}
use Rattle.gimli_lines_header.specs.AttributeReading.{data_of_word}
use Rattle.linemap_emit_parts.specs.declared.entries.Entry.{Entry}
use Rattle.linemap_emit_parts.specs.declared.entries.Entry.TheVariants.{CompileUnit, AbstractFunction, Function, Call, EndOfChildren}
use Rattle.gimli_lines_header.specs.AttributeValues.{RawValue, RawAttribute, string_reference, section_offset, address, unsigned_data, unit_reference}

-- ---- values

-- A value, named as its form: the offset of a text in the string section, an offset into another
-- section, an address, a number, the offset of an entry from the start of its unit.
pub data EmittedValue : Type 0 where
  strp : (offset : ℕ) → EmittedValue
  sec_offset : (offset : ℕ) → EmittedValue
  addr : (at : ℕ) → EmittedValue
  udata : (n : ℕ) → EmittedValue
  ref4 : (offset : ℕ) → EmittedValue

-- Up to version 3 an offset into another section is spelled as data of an offset's width, then by a
-- form of its own (DWARF 3, 7.5.4; DWARF 5, 7.5.5).
abbrev pub offset_form : Encoding → ℕ
offset_form e = if nat_le e.version 3 then data_of_word e.format else DW_FORM_sec_offset.0

-- the form of a value
abbrev pub form_of : Encoding → EmittedValue → ℕ
form_of e (strp offset) = DW_FORM_strp.0
form_of e (sec_offset offset) = offset_form e
form_of e (addr at) = DW_FORM_addr.0
form_of e (udata n) = DW_FORM_udata.0
form_of e (ref4 offset) = DW_FORM_ref4.0

-- its bytes
abbrev pub spelled_value : Encoding → Bool → EmittedValue → List ℕ
spelled_value e is_big (strp offset) = number_bytes is_big (word_size e.format) offset
spelled_value e is_big (sec_offset offset) = number_bytes is_big (word_size e.format) offset
spelled_value e is_big (addr at) = number_bytes is_big e.address_size at
spelled_value e is_big (udata n) = unsigned_string n
spelled_value e is_big (ref4 offset) = number_bytes is_big 4 offset

-- what is read of them
abbrev pub raw_value_of : EmittedValue → RawValue
raw_value_of (strp offset) = string_reference offset
raw_value_of (sec_offset offset) = section_offset offset
raw_value_of (addr at) = address at
raw_value_of (udata n) = unsigned_data n
raw_value_of (ref4 offset) = unit_reference offset

-- the names under which data of an offset's width is an offset: those of the line program and of
-- the ranges
abbrev pub has_section_offset : ℕ → Bool
has_section_offset name = name == DW_AT_stmt_list.0 || name == DW_AT_ranges.0

-- an attribute: its name and its value
pub record EmittedAttribute : Type 0 where
  pub name : ℕ
  pub value : EmittedValue

-- the value fits its bytes, and an offset is below a limit
abbrev pub Fits : ℕ → Encoding → ℕ → EmittedValue → Type 0
Fits limit e name (strp offset) = (offset < 256 ^ word_size e.format) × (offset < limit)
Fits limit e name (sec_offset offset) =
    (offset < 256 ^ word_size e.format) × (offset < limit) × (has_section_offset name ≡ true)
Fits limit e name (addr at) = at < 256 ^ e.address_size
Fits limit e name (udata n) = n < 2 ^ 64
Fits limit e name (ref4 offset) = (offset < 256 ^ 4) × (offset < limit)

-- the value of each attribute fits its bytes
abbrev pub AllFit : ℕ → Encoding → List EmittedAttribute → Type 0
AllFit limit e [] = Unit {0}
AllFit limit e (s ∷ ss) = Fits limit e s.name s.value × AllFit limit e ss

-- how a declaration describes an attribute
abbrev pub declared_attribute : Encoding → EmittedAttribute → Attribute
declared_attribute e s = record { name = s.name; form = form_of e s.value; implicit_const = None }

-- what it is read as
abbrev pub raw_attribute_of : Encoding → EmittedAttribute → RawAttribute
raw_attribute_of e s =
    record { name = s.name; form = form_of e s.value; value = raw_value_of s.value }

-- ---- entries

abbrev pub attribute_with : ℕ → EmittedValue → EmittedAttribute
attribute_with name value = record { name = name; value = value }

-- The attributes of an entry. The ranges of a unit are relative to its low address, which is 0. A
-- function that is inlined somewhere has an abstract entry with its name, and each call of it
-- refers to that entry (DWARF 5, 3.3.8).
abbrev pub attributes_of : Entry → List EmittedAttribute
attributes_of (CompileUnit name directory line_program ranges) =
    attribute_with DW_AT_name.0 (strp name) ∷ attribute_with DW_AT_comp_dir.0 (strp directory)
    ∷ attribute_with DW_AT_stmt_list.0 (sec_offset line_program)
    ∷ attribute_with DW_AT_low_pc.0 (addr 0)
    ∷ attribute_with DW_AT_ranges.0 (sec_offset ranges) ∷ []
attributes_of (AbstractFunction name) = attribute_with DW_AT_name.0 (strp name) ∷ []
attributes_of (Function has_children name ranges) =
    attribute_with DW_AT_name.0 (strp name) ∷ attribute_with DW_AT_ranges.0 (sec_offset ranges) ∷ []
attributes_of (Call has_children origin ranges file line column) =
    attribute_with DW_AT_abstract_origin.0 (ref4 origin)
    ∷ attribute_with DW_AT_ranges.0 (sec_offset ranges)
    ∷ attribute_with DW_AT_call_file.0 (udata file) ∷ attribute_with DW_AT_call_line.0 (udata line)
    ∷ attribute_with DW_AT_call_column.0 (udata column) ∷ []
attributes_of EndOfChildren = []

-- the code of its declaration, 0 at the end of children
abbrev pub abbreviation_code : Entry → ℕ
abbreviation_code (CompileUnit name directory line_program ranges) = 1
abbreviation_code (Function has_children name ranges) = if has_children then 2 else 3
abbreviation_code (Call has_children origin ranges file line column) =
    if has_children then 4 else 5
abbreviation_code (AbstractFunction name) = 6
abbreviation_code EndOfChildren = 0

-- an entry's declaration: a compilation unit, a subprogram, an inlined subroutine
abbrev pub declaration_for : Encoding → ℕ → Bool → Entry → Declaration
declaration_for e tag has_children x =
    record {
      code = abbreviation_code x;
      tag = tag;
      has_children = has_children;
      attributes = map (declared_attribute e) (attributes_of x);
    }

abbrev pub declaration_of : Encoding → Entry → Option Declaration
declaration_of e (CompileUnit name directory line_program ranges) =
    Some (declaration_for e DW_TAG_compile_unit.0 true
    (CompileUnit name directory line_program ranges))
declaration_of e (Function has_children name ranges) =
    Some (declaration_for e DW_TAG_subprogram.0 has_children (Function has_children name ranges))
declaration_of e (Call has_children origin ranges file line column) =
    Some (declaration_for e DW_TAG_inlined_subroutine.0 has_children
    (Call has_children origin ranges file line column))
declaration_of e (AbstractFunction name) =
    Some (declaration_for e DW_TAG_subprogram.0 false (AbstractFunction name))
declaration_of e EndOfChildren = None

-- the declarations, by their codes
abbrev pub declarations : Encoding → List Declaration
declarations e =
    declaration_for e DW_TAG_compile_unit.0 true (CompileUnit 0 0 0 0)
    ∷ declaration_for e DW_TAG_subprogram.0 true (Function true 0 0)
    ∷ declaration_for e DW_TAG_subprogram.0 false (Function false 0 0)
    ∷ declaration_for e DW_TAG_inlined_subroutine.0 true (Call true 0 0 0 0 0)
    ∷ declaration_for e DW_TAG_inlined_subroutine.0 false (Call false 0 0 0 0 0)
    ∷ declaration_for e DW_TAG_subprogram.0 false (AbstractFunction 0) ∷ []

-- the bytes of an entry
abbrev pub spelled_entry : Encoding → Bool → Entry → List ℕ
spelled_entry e is_big x =
    unsigned_string (abbreviation_code x)
    ++ flat_map (λ s. spelled_value e is_big s.value) (attributes_of x)

-- ---- declarations

-- the bytes of the attributes of a declaration, and of the pair of zeros after the last
abbrev pub spelled_attributes : List Attribute → List ℕ
spelled_attributes [] = 0 ∷ 0 ∷ []
spelled_attributes (a ∷ others) =
    unsigned_string a.name ++ unsigned_string a.form ++ spelled_attributes others

abbrev pub spelled_declaration : Declaration → List ℕ
spelled_declaration d =
    unsigned_string d.code ++ unsigned_string d.tag ++ (if d.has_children then 1 else 0)
    ∷ spelled_attributes d.attributes

-- the table of the declarations, and the code 0 after them
abbrev pub spelled_declarations : Encoding → List ℕ
spelled_declarations e = flat_map spelled_declaration (declarations e) ++ 0 ∷ []
