-- Units of `.debug_line` as they are written: a header and its program (DWARF 5, 6.2.4; up to
-- version 4: DWARF 4, 6.2.4).
use Rattle.std.specs.Prelude.{ℕ, ◌+◌, nat_le, Bool, List, [], ◌∷◌, ◌++◌, flat_map, length, map, option_map, if◌then◌else◌}
use Rattle.gimli_lines_write_rows.specs.Encoding.{Encoding}
use Rattle.gimli_lines_write_rows.specs.Format.{Format}
use Rattle.gimli_lines_write_rows.specs.FormatSizes.{word_size}
use Rattle.gimli_lines_write_rows.specs.Fixed.{number_bytes}
use Rattle.gimli_lines_write_rows.specs.Spelling.{unsigned_string}
use Rattle.gimli_lines_write_rows.specs.NumberBytes.{complement, spelled_length}
use Rattle.gimli_lines_write_rows.specs.LineRules.{LineRules}
use Rattle.gimli_lines_header.specs.AttributeValues.{RawValue, string}
use Rattle.gimli_lines_header.specs.declared.formats.FileEntryFormat.{FileEntryFormat}
use Rattle.gimli_lines_header.specs.LineFiles.{FileFacts, no_md5, file_named}
use Rattle.gimli_lines_header.specs.LineHeaders.{LineHeader}
use Rattle.gimli_lines_header.specs.HeaderParsing.{LineUnit}
use Rattle.gimli_lines_write_spec.specs.HeaderTexts.{Text, form_in, spelled_text, value_of_text}
use Rattle.gimli_lines_write_spec.specs.EntryFields.{WrittenFile, Details, spelled_file, directory_formats, file_formats, spelled_formats, file_facts}
use Rattle.std.specs.Prelude.{None}
use Rattle.gimli_lines_write_rows.specs.BytesAt.{values_at}

-- the directories and files of a header, and what it records of files in version 5
pub record Tables : Type 0 where
  pub directories : List Text
  pub files : List WrittenFile
  pub details : Details

-- ---- tables up to version 4: an empty text ends each

-- a file: its path, the number of its directory, when it was modified, its size
abbrev pub spelled_file_to_4 : Bool → Format → WrittenFile → List ℕ
spelled_file_to_4 is_big format f = spelled_text is_big format f.path
    ++ (unsigned_string f.directory ++ (unsigned_string f.timestamp ++ unsigned_string f.size))

-- the directories, and the empty text that ends them
abbrev pub spelled_directories_to_4 : Bool → Format → List Text → List ℕ
spelled_directories_to_4 is_big format directories =
    flat_map (spelled_text is_big format) directories ++ 0 ∷ []

-- the files, and the empty path that ends them
abbrev pub spelled_files_to_4 : Bool → Format → Tables → List ℕ
spelled_files_to_4 is_big format t = flat_map (spelled_file_to_4 is_big format) t.files ++ 0 ∷ []

-- ---- tables in version 5: formats, how many entries, and the entries

-- the formats of directories: texts of one list have one form
abbrev pub formats_of_directories : List Text → List FileEntryFormat
formats_of_directories directories = directory_formats (form_in directories)

-- the form of the files' paths
abbrev pub path_form : Tables → ℕ
path_form t = form_in (map (λ (f : WrittenFile). f.path) t.files)

-- the form of the files' texts
abbrev pub source_form : Tables → ℕ
source_form t = form_in (map (λ (f : WrittenFile). f.source) t.files)

-- the formats of the files
abbrev pub formats_of_files : Tables → List FileEntryFormat
formats_of_files t = file_formats t.details (path_form t) (source_form t)

-- the directories in version 5
abbrev pub spelled_directories_of_5 : Bool → Format → List Text → List ℕ
spelled_directories_of_5 is_big format directories =
    spelled_formats (formats_of_directories directories)
    ++ (unsigned_string (length directories) ++ flat_map (spelled_text is_big format) directories)

-- the files in version 5
abbrev pub spelled_files_of_5 : Bool → Format → Tables → List ℕ
spelled_files_of_5 is_big format t =
    spelled_formats (formats_of_files t)
    ++ (unsigned_string (length t.files) ++ flat_map (spelled_file is_big format t.details)
    t.files)

-- ---- in every version

-- the directories
abbrev pub spelled_directories : Encoding → Bool → List Text → List ℕ
spelled_directories e is_big directories =
    if nat_le e.version 4 then spelled_directories_to_4 is_big e.format directories
    else spelled_directories_of_5 is_big e.format directories

-- the files
abbrev pub spelled_files : Encoding → Bool → Tables → List ℕ
spelled_files e is_big t =
    if nat_le e.version 4 then spelled_files_to_4 is_big e.format t
    else spelled_files_of_5 is_big e.format t

-- the parameters of special opcodes: from version 4 on with the operations of an instruction
abbrev pub spelled_parameters : LineRules → List ℕ
spelled_parameters rules =
    rules.line_encoding.minimum_instruction_length
    ∷ ((if nat_le 4 rules.encoding.version
    then rules.line_encoding.maximum_operations_per_instruction ∷ [] else [])
    ++ ((if rules.line_encoding.default_is_stmt then 1 else 0)
    ∷ complement 1 rules.line_encoding.line_base ∷ rules.line_encoding.line_range ∷ []))

-- the numbers of operands of the standard opcodes 1 to 12
abbrev pub operand_counts : List ℕ
operand_counts = 0 ∷ 1 ∷ 1 ∷ 1 ∷ 1 ∷ 0 ∷ 0 ∷ 0 ∷ 1 ∷ 0 ∷ 0 ∷ 1 ∷ []

-- the first special opcode, and those numbers
abbrev pub spelled_opcodes : List ℕ
spelled_opcodes = 13 ∷ operand_counts

-- the fields that the second length counts
abbrev pub spelled_header : LineRules → Bool → Tables → List ℕ
spelled_header rules is_big t = spelled_parameters rules
    ++ (spelled_opcodes ++ (spelled_directories rules.encoding is_big t.directories
    ++ spelled_files rules.encoding is_big t))

-- the version, and in version 5 the sizes of an address and of a segment selector, which has none
abbrev pub spelled_sizes : Encoding → Bool → List ℕ
spelled_sizes e is_big =
    number_bytes is_big 2 e.version ++ (if nat_le e.version 4 then [] else e.address_size ∷ 0 ∷ [])

-- what the first length counts
abbrev pub spelled_body : LineRules → Bool → Tables → List ℕ → List ℕ
spelled_body rules is_big t program =
    spelled_sizes rules.encoding is_big
    ++ (number_bytes is_big (word_size rules.encoding.format)
    (length (spelled_header rules is_big t)) ++ (spelled_header rules is_big t ++ program))

-- a header and its program
abbrev pub spelled_unit : LineRules → Bool → Tables → List ℕ → List ℕ
spelled_unit rules is_big t program =
    spelled_length rules.encoding.format is_big (length (spelled_body rules is_big t program))
    ++ spelled_body rules is_big t program

-- ---- what is read

-- where the fields of a header begin whose first length has an identifier
abbrev pub fields_at : LineRules → Bool → ℕ → Tables → List ℕ → ℕ
fields_at rules is_big first t program =
    first + length (spelled_length rules.encoding.format is_big
    (length (spelled_body rules is_big t program)))
    + length (spelled_sizes rules.encoding is_big)
    + length (number_bytes is_big (word_size rules.encoding.format)
    (length (spelled_header rules is_big t)))

-- where the tables begin after the fields
abbrev pub directories_at : LineRules → ℕ → ℕ
directories_at rules fields = fields + length (spelled_parameters rules) + length spelled_opcodes

-- where the files begin
abbrev pub files_at : LineRules → Bool → ℕ → Tables → ℕ
files_at rules is_big fields t =
    directories_at rules fields
    + length (spelled_directories rules.encoding is_big t.directories)

-- in version 5 the entries begin after the formats and the number of entries
abbrev pub entries_offset : Encoding → List FileEntryFormat → ℕ → ℕ
entries_offset e formats n =
    if nat_le e.version 4 then 0 else length (spelled_formats formats) + length (unsigned_string n)

-- what is read of the directories, whose table begins at an identifier
abbrev pub directory_values : Encoding → Bool → ℕ → List Text → List RawValue
directory_values e is_big first directories =
    values_at (spelled_text is_big e.format) (value_of_text is_big)
    (first + entries_offset e (formats_of_directories directories) (length directories)) directories

-- a file up to version 4
abbrev pub file_facts_to_4 : Bool → ℕ → WrittenFile → FileFacts
file_facts_to_4 is_big first f = record {
  path = value_of_text is_big first f.path;
  directory_index = f.directory;
  timestamp = f.timestamp;
  size = f.size;
  md5 = no_md5;
  source = None;
}

-- what is read of the files, whose table begins at an identifier
abbrev pub facts_of_files : Encoding → Bool → ℕ → Tables → List FileFacts
facts_of_files e is_big first t =
    if nat_le e.version 4 then values_at (spelled_file_to_4 is_big e.format)
    (file_facts_to_4 is_big) first t.files
    else values_at (spelled_file is_big e.format t.details) (file_facts is_big e.format t.details)
    (first + entries_offset e (formats_of_files t) (length t.files)) t.files

-- there are formats in version 5 alone
abbrev pub formats_in : Encoding → List FileEntryFormat → List FileEntryFormat
formats_in e formats = if nat_le e.version 4 then [] else formats

-- the header at an offset, whose fields begin at an identifier
abbrev pub header_value : LineRules → Bool → ℕ → ℕ → LineUnit → Tables → List ℕ → LineHeader
header_value rules is_big offset fields unit t program = record {
  offset = offset;
  unit_length = length (spelled_body rules is_big t program);
  encoding = rules.encoding;
  header_length = length (spelled_header rules is_big t);
  line_encoding = rules.line_encoding;
  opcode_base = 13;
  standard_opcode_lengths = record {
    bytes = operand_counts;
    is_big = is_big;
    first = fields + length (spelled_parameters rules) + 1;
  };
  directory_formats = formats_in rules.encoding (formats_of_directories t.directories);
  directories = directory_values rules.encoding is_big (directories_at rules fields) t.directories;
  file_formats = formats_in rules.encoding (formats_of_files t);
  files = facts_of_files rules.encoding is_big (files_at rules is_big fields t) t;
  program = record {
    bytes = program;
    is_big = is_big;
    first = fields + length (spelled_header rules is_big t);
  };
  unit_directory = option_map string unit.directory;
  unit_file = option_map file_named unit.name;
}
