-- What the header of a line number program says of a file, and of the fields of its entries (DWARF
-- 5, 6.2.4 and 6.2.4.1).
use Rattle.std.specs.Prelude.{ℕ, ◌==◌, Bool, List, Option, None, replicate}
use Rattle.std.specs.List.{list_any}
use Rattle.gimli_units_headers.specs.View.{View}
use Rattle.gimli_units_headers.specs.TheConstants.{DW_LNCT_path, DW_LNCT_directory_index, DW_LNCT_timestamp, DW_LNCT_size, DW_LNCT_MD5, DW_LNCT_LLVM_source}
use Rattle.gimli_units_forms.specs.AttributeValues.{RawValue, string}
use Rattle.gimli_lines_header.specs.declared.formats.FileEntryFormat.{FileEntryFormat}

-- A file: its path, the number of its directory, when it was modified, its size in bytes (0 where
-- they aren't known), its digest, and its text.
pub record FileFacts : Type 0 where
  pub path : RawValue
  pub directory_index : ℕ
  pub timestamp : ℕ
  pub size : ℕ
  pub md5 : List ℕ
  pub source : Option RawValue

-- no digest is sixteen zeros
abbrev pub no_md5 : List ℕ
no_md5 = replicate 16 0

-- a file of a directory, as entries up to version 4 have it
abbrev pub file_in : View → ℕ → ℕ → ℕ → FileFacts
file_in path directory_index timestamp size = record {
  path = string path;
  directory_index = directory_index;
  timestamp = timestamp;
  size = size;
  md5 = no_md5;
  source = None;
}

-- the file of a unit: its name, in directory 0
abbrev pub file_named : View → FileFacts
file_named name = file_in name 0 0 0

-- ---- contents of a field (DWARF 5, 7.22; the last is LLVM's)

abbrev pub path_content : ℕ
path_content = DW_LNCT_path.0

abbrev pub directory_content : ℕ
directory_content = DW_LNCT_directory_index.0

abbrev pub timestamp_content : ℕ
timestamp_content = DW_LNCT_timestamp.0

abbrev pub size_content : ℕ
size_content = DW_LNCT_size.0

abbrev pub md5_content : ℕ
md5_content = DW_LNCT_MD5.0

abbrev pub source_content : ℕ
source_content = DW_LNCT_LLVM_source.0

-- a field has this content
abbrev pub has_content : ℕ → List FileEntryFormat → Bool
has_content content formats = list_any (λ f. f.content_type.0 == content) formats
