-- The entries of directories and files in version 5: fields, whose contents and forms come before
-- them (DWARF 5, 6.2.4.1).
use Rattle.std.specs.Prelude.{ℕ, ◌==◌, min, Bool, List, [], ◌∷◌, count_by, Option, Some, None, unwrap_or, if◌then◌else◌}
use Rattle.std.specs.List.{list_any}
use Rattle.gimli_units_headers.specs.Error.TheVariants.{MissingFileEntryFormatPath, UnknownForm}
use Rattle.gimli_units_headers.specs.View.{bytes_left}
use Rattle.gimli_units_headers.specs.Parsers.{Parser, ◌>>=◌, ◌>>◌, give, fail, branch, demand, here, map_value, some_or}
use Rattle.gimli_units_headers.specs.Repetition.{times}
use Rattle.gimli_units_headers.specs.TheConstants.{DW_FORM_block2, DW_FORM_block4, DW_FORM_data2, DW_FORM_data4, DW_FORM_data8, DW_FORM_string, DW_FORM_block, DW_FORM_block1, DW_FORM_data1, DW_FORM_flag, DW_FORM_sdata, DW_FORM_strp, DW_FORM_udata, DW_FORM_sec_offset, DW_FORM_strx, DW_FORM_strp_sup, DW_FORM_data16, DW_FORM_line_strp, DW_FORM_strx1, DW_FORM_strx2, DW_FORM_strx3, DW_FORM_strx4}
use Rattle.gimli_units_headers.specs.Encoding.{Encoding}
use Rattle.gimli_units_headers.specs.NumberParsers.{fixed, unsigned, unsigned_16}
use Rattle.gimli_units_headers.specs.Fixed.{number_bytes}
use Rattle.gimli_units_forms.specs.AttributeValues.{RawValue, block, data_16}
use Rattle.gimli_units_forms.specs.AttributeMeanings.{unsigned_of}
use Rattle.gimli_units_forms.specs.AttributeReading.{attribute}
use Rattle.gimli_lines_header.specs.declared.formats.FileEntryFormat.{FileEntryFormat}
use Rattle.gimli_lines_header.specs.LineFiles.{FileFacts, no_md5, path_content, directory_content, timestamp_content, size_content, md5_content, source_content}

-- ---- formats

-- A content and a form. Contents that 16 bits don't hold are among those that the standard doesn't
-- number.
unfoldable pub entry_format : Parser FileEntryFormat
entry_format = do
  content ← unsigned
  form ← unsigned_16
  give (record { content_type = record { 0 = min content 0xffff }; form = record { 0 = form } })

-- exactly one of the fields is the path
abbrev pub has_one_path : List FileEntryFormat → Bool
has_one_path formats = count_by (λ f. f.content_type.0 == path_content) formats == 1

-- as many formats as a byte says
unfoldable pub entry_formats : Parser (List FileEntryFormat)
entry_formats = do
  count ← fixed 1
  formats ← times count entry_format
  demand (has_one_path formats) MissingFileEntryFormatPath
  give formats

-- ---- values

-- the forms that fields may have: a value of each takes a byte at least
abbrev pub entry_forms : List ℕ
entry_forms =
    DW_FORM_block2.0 ∷ DW_FORM_block4.0 ∷ DW_FORM_data2.0 ∷ DW_FORM_data4.0 ∷ DW_FORM_data8.0
    ∷ DW_FORM_string.0 ∷ DW_FORM_block.0 ∷ DW_FORM_block1.0 ∷ DW_FORM_data1.0 ∷ DW_FORM_flag.0
    ∷ DW_FORM_sdata.0 ∷ DW_FORM_strp.0 ∷ DW_FORM_udata.0 ∷ DW_FORM_sec_offset.0 ∷ DW_FORM_strx.0
    ∷ DW_FORM_strp_sup.0 ∷ DW_FORM_data16.0 ∷ DW_FORM_line_strp.0 ∷ DW_FORM_strx1.0
    ∷ DW_FORM_strx2.0 ∷ DW_FORM_strx3.0 ∷ DW_FORM_strx4.0 ∷ []

-- a field may have this form
abbrev pub is_entry_form : ℕ → Bool
is_entry_form form = list_any (λ f. form == f) entry_forms

-- the value of a field: what an attribute of that form would have, under no name
unfoldable pub entry_value : ℕ → Encoding → ℕ → Parser RawValue
entry_value limit e form =
    branch (is_entry_form form) (map_value (λ a. a.value)
    (attribute limit e (record { name = 0; form = form; implicit_const = None })))
    (fail (UnknownForm (record { 0 = form })))

-- a field: its content, and the value
pub record Field : Type 0 where
  pub content : ℕ
  pub value : RawValue

-- the fields of an entry, one for each format
unfoldable pub entry_fields : ℕ → Encoding → List FileEntryFormat → Parser (List Field)
entry_fields limit e [] = give []
entry_fields limit e (format ∷ formats) = do
  value ← entry_value limit e format.form.0
  fields ← entry_fields limit e formats
  give (record { content = format.content_type.0; value = value } ∷ fields)

-- ---- what the fields say

-- what f finds in the last of the fields in which it finds something, else what was there before
abbrev pub last_in : {A : Type 0} → (Field → Option A) → A → List Field → A
last_in f x [] = x
last_in f x (field ∷ fields) = last_in f (unwrap_or (f field) x) fields

-- what a field of this content means
abbrev pub content_as : {A : Type 0} → ℕ → (RawValue → Option A) → Field → Option A
content_as content meaning field = if field.content == content then meaning field.value else None

-- the value itself
abbrev pub whole_value : RawValue → Option (Option RawValue)
whole_value value = Some (Some value)

-- The digest: sixteen bytes, in their order. A block of another length is none.
abbrev pub digest_of : Bool → RawValue → Option (List ℕ)
digest_of is_big (data_16 n) = Some (number_bytes is_big 16 n)
digest_of is_big (block bytes) = if bytes_left bytes == 16 then Some bytes.bytes else None
digest_of is_big _ = None

-- what an entry says so far
pub record EntryFacts : Type 0 where
  pub path : Option RawValue
  pub directory_index : ℕ
  pub timestamp : ℕ
  pub size : ℕ
  pub md5 : List ℕ
  pub source : Option RawValue

-- what an entry without fields says
abbrev pub no_facts : EntryFacts
no_facts = record {
  path = None;
  directory_index = 0;
  timestamp = 0;
  size = 0;
  md5 = no_md5;
  source = None;
}

-- What fields say: of each content the last value that means something. Numbers are unsigned
-- values; what is none, and fields of other contents, are skipped.
abbrev pub facts_after : Bool → EntryFacts → List Field → EntryFacts
facts_after is_big facts fields = record {
  path = last_in (content_as path_content whole_value) facts.path fields;
  directory_index = last_in (content_as directory_content unsigned_of) facts.directory_index fields;
  timestamp = last_in (content_as timestamp_content unsigned_of) facts.timestamp fields;
  size = last_in (content_as size_content unsigned_of) facts.size fields;
  md5 = last_in (content_as md5_content (digest_of is_big)) facts.md5 fields;
  source = last_in (content_as source_content whole_value) facts.source fields;
}

-- what a further field says, after those before it
abbrev pub facts_with : Bool → EntryFacts → ℕ → RawValue → EntryFacts
facts_with is_big facts content value =
    facts_after is_big facts (record { content = content; value = value } ∷ [])

-- what an entry says
unfoldable pub entry : ℕ → Encoding → List FileEntryFormat → Parser EntryFacts
entry limit e formats = do
  v ← here
  fields ← entry_fields limit e formats
  give (facts_after v.is_big no_facts fields)

-- a directory: the path alone
unfoldable pub directory_entry : ℕ → Encoding → List FileEntryFormat → Parser RawValue
directory_entry limit e formats = do
  facts ← entry limit e formats
  some_or MissingFileEntryFormatPath facts.path

-- a file
unfoldable pub file_entry : ℕ → Encoding → List FileEntryFormat → Parser FileFacts
file_entry limit e formats = do
  facts ← entry limit e formats
  path ← some_or MissingFileEntryFormatPath facts.path
  give (record {
    path = path;
    directory_index = facts.directory_index;
    timestamp = facts.timestamp;
    size = facts.size;
    md5 = facts.md5;
    source = facts.source;
  })
