-- What is said of every header that is read.
use Rattle.std.specs.Prelude.{◌≡◌, ℕ, ◌+◌, ◌*◌, ◌<◌, ◌≤◌, ◌==◌, List, length, Ok, if◌then◌else◌}
use Rattle.gimli_units_headers.specs.View.{View, after, prefix, bytes_left}
use Rattle.gimli_units_headers.specs.Encoding.{Encoding}
use Rattle.gimli_units_headers.specs.FormatSizes.{initial_length_size, word_size}
use Rattle.gimli_lines_header.specs.declared.formats.FileEntryFormat.{FileEntryFormat}
use Rattle.gimli_lines_header.specs.LineFiles.{FileFacts}
use Rattle.gimli_lines_header.specs.LineHeaders.{LineHeader}
use Rattle.gimli_lines_header.specs.TableEntries.{file_entry}
use Rattle.gimli_lines_header.specs.HeaderParsing.{LineUnit, line_header}

-- the bytes of the version and, in version 5, of the two sizes after it
abbrev pub sizes_bytes : Encoding → ℕ
sizes_bytes e = 2 + (if e.version == 5 then 2 else 0)

-- the bytes that a header's first length counts
abbrev pub counted_bytes : View → LineHeader → View
counted_bytes v h = prefix h.unit_length (after (initial_length_size h.encoding.format) v)

-- Lengths delimit a header: the first counts the header and its program, and the rest follows them;
-- the program begins as many bytes after the second as that says, whatever the tables take.
pub record LengthsDelimit (v : View) (h : LineHeader) (rest : View) : Type 0 where
  pub program : h.program ≡ after
      (sizes_bytes h.encoding + (word_size h.encoding.format + h.header_length)) (counted_bytes v h)
  pub after_program : rest ≡ after (initial_length_size h.encoding.format + h.unit_length) v
  pub enough : initial_length_size h.encoding.format + h.unit_length ≤ bytes_left v

-- its lengths delimit each header
abbrev pub LengthsDelimitHeaders : Type 0
LengthsDelimitHeaders = (limit offset : ℕ) (unit : LineUnit) (v rest : View) (h : LineHeader)
    → line_header limit offset unit v ≡ Ok (h, rest) → LengthsDelimit v h rest

-- the least bytes that the tables of a header take: a byte for each standard opcode, directory and
-- file, two for each format
abbrev pub bytes_needed : LineHeader → ℕ
bytes_needed h =
    bytes_left h.standard_opcode_lengths + 2 * length h.directory_formats + length h.directories + 2
    * length h.file_formats + length h.files

-- the tables are within the bytes that the second length counts
abbrev pub TablesFit : Type 0
TablesFit = (limit offset : ℕ) (unit : LineUnit) (v rest : View) (h : LineHeader)
    → line_header limit offset unit v ≡ Ok (h, rest) → bytes_needed h ≤ h.header_length

-- each entry of version 5 takes a byte at least, whatever its fields are
abbrev pub EntriesTakeBytes : Type 0
EntriesTakeBytes = (limit : ℕ) (e : Encoding) (formats : List FileEntryFormat) (v rest : View)
    (file : FileFacts) → file_entry limit e formats v ≡ Ok (file, rest)
    → bytes_left rest < bytes_left v
