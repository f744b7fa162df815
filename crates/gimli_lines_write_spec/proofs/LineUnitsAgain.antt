-- A unit of `.debug_line` is read again: its header, its tables and its program.
use Rattle.std.proofs.Common.{◌≡◌, ℕ, ◌+◌, ◌<◌, ◌≤◌, ◌^◌, Bool, true, false, List, [], ◌∷◌, ◌++◌, length, map, option_map, Result, Ok, refl, sym, ap, subst, ◌∙◌, arith, append-nil}
use Rattle.std.specs.Prelude.{◌==◌, nat_le, flat_map}
use Rattle.std.proofs.lemmas.Bool.{le-leb, leb-true, leb-false, eq-eqb}
use Rattle.std.proofs.lemmas.List.{length-append}
use Rattle.gimli_lines_write_rows.specs.Error.{Error}
use Rattle.gimli_lines_write_rows.specs.Error.TheVariants.{UnsupportedSegmentSize}
use Rattle.gimli_lines_write_rows.specs.View.{View}
use Rattle.gimli_lines_write_rows.specs.Parsers.{proceed, give, lift, within, value_of, part, here, demand, ◌>>=◌, ◌>>◌}
use Rattle.gimli_lines_write_rows.specs.Encoding.{Encoding}
use Rattle.gimli_lines_write_rows.specs.Format.{Format}
use Rattle.gimli_lines_write_rows.specs.Format.TheVariants.{Dwarf32, Dwarf64}
use Rattle.gimli_lines_write_rows.specs.FormatSizes.{word_size}
use Rattle.gimli_lines_write_rows.specs.Fixed.{number_bytes}
use Rattle.gimli_lines_write_rows.specs.NumberParsers.{fixed, word, is_address_size, address_size}
use Rattle.gimli_lines_write_rows.specs.Spelling.{unsigned_string}
use Rattle.gimli_lines_write_rows.proofs.Wrapping.{at_most_eight}
use Rattle.gimli_lines_header.specs.AttributeValues.{string}
use Rattle.gimli_lines_write_rows.specs.LineRules.{LineRules}
use Rattle.gimli_lines_header.specs.LineFiles.{file_named}
use Rattle.gimli_lines_header.specs.LineHeaders.{LineHeader}
use Rattle.gimli_lines_header.specs.HeaderTables.{directories, files, directory_texts}
use Rattle.gimli_lines_header.specs.HeaderParsing.{LineUnit, encoding_of_5, line_sizes, line_parameters, header_fields, header_in, line_header, Bounds}
use Rattle.gimli_lines_write_spec.specs.HeaderTexts.{spelled_text, value_of_text}
use Rattle.gimli_lines_write_spec.specs.EntryFields.{WrittenFile, spelled_file, spelled_formats}
use Rattle.gimli_lines_write_spec.specs.HeaderSpelling.{Tables, path_form, source_form, formats_of_directories, formats_of_files, spelled_directories_to_4, spelled_directories_of_5, spelled_files_of_5, operand_counts, spelled_parameters, spelled_opcodes, spelled_sizes, spelled_directories, spelled_files, spelled_header, spelled_body, spelled_unit, fields_at, directories_at, files_at, formats_in, directory_values, facts_of_files, header_value}
use Rattle.gimli_lines_write_spec.specs.HeaderReadBack.{CanWrite}
use Rattle.gimli_lines_write_rows.proofs.FollowedReads.{Again, again_nothing, again_onward, again_then, again_same, again_fixed, one_byte, part_is, word_again, length_again}
use Rattle.gimli_lines_write_spec.proofs.FormatsAgain.{directories_again_5, files_again_5, low_form_in, items_take_bytes, text_some, file_some}
use Rattle.gimli_lines_write_spec.proofs.TablesToVersion4.{directories_again_4, files_again_4}
use Rattle.gimli_lines_write_spec.proofs.HeadersAgain.{parameters_again, opcodes_again}
use Rattle.gimli_lines_write_rows.specs.BytesAt.{bytes_at, values_at}
use Rattle.gimli_lines_write_rows.specs.NumberBytes.{length_limit, spelled_length}

-- ---- lengths

below_front : (a b : List ℕ) (n : ℕ) → length (a ++ b) < n → length a < n
below_front a b n h = omega (arith, length-append a b)

pub below_back : (a b : List ℕ) (n : ℕ) → length (a ++ b) < n → length b < n
below_back a b n h = omega (arith, length-append a b)

limit_fits : (format : Format) (n : ℕ) → n < length_limit format → (n < 2 ^ 64) × (n < 256 ^ word_size format)
limit_fits Dwarf32 n h = (omega arith, omega arith)
limit_fits Dwarf64 n h = (omega arith, omega arith)

-- ---- sizes

size_again : (is_big : Bool) (first n : ℕ) → is_address_size n ≡ true → Again is_big first address_size n (n ∷ [])
unfolding address_size
size_again is_big first n sized =
    again_then _ (one_byte is_big first n (let few = at_most_eight n sized in omega arith)) (λ v. rw sized refl)

of_5_again : (is_big : Bool) (first : ℕ) (e : Encoding) → e.version ≡ 5 → is_address_size e.address_size ≡ true
    → Again is_big first (encoding_of_5 e.format) e (e.address_size ∷ 0 ∷ [])
unfolding encoding_of_5
of_5_again is_big first e version sized =
    again_onward (λ size. fixed 1 >>= λ segment.
    (demand (segment == 0) UnsupportedSegmentSize
    >> give (record { address_size = size; format = e.format; version = 5 })))
    (size_again is_big first e.address_size sized)
    (again_then (λ segment. demand (segment == 0) UnsupportedSegmentSize
    >> give (record { address_size = e.address_size; format = e.format; version = 5 }))
    (one_byte is_big (first + 1) 0 (omega arith))
    (λ v. ap (λ (n : ℕ). Ok (record { address_size = e.address_size; format = e.format; version = n }, v))
    (sym version)))

sizes_again : (is_big : Bool) (first : ℕ) (e : Encoding) (bytes : ℕ) → 2 ≤ e.version → e.version ≤ 5
    → is_address_size e.address_size ≡ true → bytes ≡ e.address_size
    → Again is_big first (line_sizes e.format bytes) e (spelled_sizes e is_big)
unfolding line_sizes
sizes_again is_big first e bytes low high sized same = by_version (nat_le e.version 4) refl
  where
    two : e.version < 256 ^ 2
    two = omega arith

    by_version : (b : Bool) → nat_le e.version 4 ≡ b
        → Again is_big first (line_sizes e.format bytes) e (spelled_sizes e is_big)
    by_version true earlier =
        rw earlier (again_onward _ (again_fixed is_big first 2 e.version two)
        (again_same {p = give e} (λ v. rw (le-leb 2 e.version low, earlier)
        (ap (λ n. Ok (record { address_size = n; format = e.format; version = e.version }, v)) same))
        (again_nothing is_big (first + length (number_bytes is_big 2 e.version)) e)))
    by_version false later =
        let above : 4 < e.version = leb-false e.version 4 later in
        let version : e.version ≡ 5 = omega arith in
        rw later (again_onward _ (again_fixed is_big first 2 e.version two)
        (again_same {p = encoding_of_5 e.format}
        (λ v. rw (le-leb 2 e.version low, later, eq-eqb e.version 5 version) refl)
        (of_5_again is_big (first + length (number_bytes is_big 2 e.version)) e version sized)))

-- ---- tables

module _ (limit : ℕ) (rules : LineRules) (is_big : Bool) (t : Tables) (program : List ℕ)
    (can : CanWrite limit rules is_big t program) where
  body_fits : (length (spelled_body rules is_big t program) < 2 ^ 64)
      × (length (spelled_body rules is_big t program) < 256 ^ word_size rules.encoding.format)
  body_fits = limit_fits rules.encoding.format (length (spelled_body rules is_big t program)) can.length_fits

  -- the header's length is below whatever the whole is below
  header_below : (n : ℕ) → length (spelled_body rules is_big t program) < n → length (spelled_header rules is_big t) < n
  header_below n h =
      below_front (spelled_header rules is_big t) program n
      (below_back (number_bytes is_big (word_size rules.encoding.format) (length (spelled_header rules is_big t)))
      (spelled_header rules is_big t ++ program) n
      (below_back (spelled_sizes rules.encoding is_big) _ n h))

  tables_below : length (spelled_directories rules.encoding is_big t.directories
      ++ spelled_files rules.encoding is_big t) < 2 ^ 64
  tables_below = below_back spelled_opcodes _ (2 ^ 64)
      (below_back (spelled_parameters rules) _ (2 ^ 64) (header_below (2 ^ 64) body_fits.0))

  directories_again : (first : ℕ)
      → Again is_big first (directories limit rules.encoding) (
        formats_in rules.encoding (formats_of_directories t.directories),
        directory_values rules.encoding is_big first t.directories,
      ) (spelled_directories rules.encoding is_big t.directories)
  unfolding directories
  directories_again first = by_version (nat_le rules.encoding.version 4) refl
    where
      by_version : (b : Bool) → nat_le rules.encoding.version 4 ≡ b
          → Again is_big first (directories limit rules.encoding) (
            formats_in rules.encoding (formats_of_directories t.directories),
            directory_values rules.encoding is_big first t.directories,
          ) (spelled_directories rules.encoding is_big t.directories)
      by_version true earlier =
          let stand = can.to_4 (leb-true rules.encoding.version 4 earlier) in
          let same : first ≡ first + 0 = omega arith in
          rw earlier (again_then (λ texts. give ([], texts))
          (subst (λ (n : ℕ). Again is_big first directory_texts
          (values_at (spelled_text is_big rules.encoding.format) (value_of_text is_big) n t.directories)
          (spelled_directories_to_4 is_big rules.encoding.format t.directories)) same
          (directories_again_4 limit rules.encoding.format is_big first t.directories can.directories
          stand.directories)) (λ v. refl))
      by_version false later =
          let stand = can.in_5 (leb-false rules.encoding.version 4 later) in
          let whole : length (spelled_directories_of_5 is_big rules.encoding.format t.directories) < 2 ^ 64 =
          rw later at (below_front (spelled_directories rules.encoding is_big t.directories)
          (spelled_files rules.encoding is_big t) (2 ^ 64) tables_below) in
          let entries = below_back (unsigned_string (length t.directories))
          (flat_map (spelled_text is_big rules.encoding.format) t.directories) (2 ^ 64)
          (below_back (spelled_formats (formats_of_directories t.directories)) _ (2 ^ 64) whole) in
          let few = items_take_bytes (spelled_text is_big rules.encoding.format)
          (text_some is_big rules.encoding.format) t.directories in
          rw later (directories_again_5 limit rules.encoding is_big first t.directories can.directories
          stand.directories (omega arith))

  files_again : (first : ℕ) → Again is_big first (files limit rules.encoding)
      (formats_in rules.encoding (formats_of_files t), facts_of_files rules.encoding is_big first t)
      (spelled_files rules.encoding is_big t)
  unfolding files
  files_again first = by_version (nat_le rules.encoding.version 4) refl
    where
      by_version : (b : Bool) → nat_le rules.encoding.version 4 ≡ b
          → Again is_big first (files limit rules.encoding) (
            formats_in rules.encoding (formats_of_files t),
            facts_of_files rules.encoding is_big first t,
          ) (spelled_files rules.encoding is_big t)
      by_version true earlier =
          let stand = can.to_4 (leb-true rules.encoding.version 4 earlier) in
          rw earlier (again_then (λ texts. give ([], texts))
          (files_again_4 limit rules.encoding.format is_big first t.files can.files stand.paths) (λ v. refl))
      by_version false later =
          let stand = can.in_5 (leb-false rules.encoding.version 4 later) in
          let whole : length (spelled_files_of_5 is_big rules.encoding.format t) < 2 ^ 64 =
          rw later at (below_back (spelled_directories rules.encoding is_big t.directories)
          (spelled_files rules.encoding is_big t) (2 ^ 64) tables_below) in
          let entries = below_back (unsigned_string (length t.files))
          (flat_map (spelled_file is_big rules.encoding.format t.details) t.files) (2 ^ 64)
          (below_back (spelled_formats (formats_of_files t)) _ (2 ^ 64) whole) in
          let few = items_take_bytes (spelled_file is_big rules.encoding.format t.details)
          (file_some is_big rules.encoding.format t.details) t.files in
          rw later (files_again_5 limit rules.encoding is_big t.details (path_form t) (source_form t) first t.files
          (low_form_in (map (λ (f : WrittenFile). f.path) t.files))
          (low_form_in (map (λ (f : WrittenFile). f.source) t.files))
          can.files stand.paths stand.sources (omega arith))

  -- ---- the fields, and what comes before and after them

  -- the header of some fields
  abbrev header_for : ℕ → LineUnit → Bounds → LineHeader
  header_for first unit b = record {
    offset = b.offset;
    unit_length = b.unit_length;
    encoding = b.encoding;
    header_length = b.header_length;
    line_encoding = rules.line_encoding;
    opcode_base = 13;
    standard_opcode_lengths = bytes_at is_big (first + length (spelled_parameters rules) + 1) operand_counts;
    directory_formats = formats_in rules.encoding (formats_of_directories t.directories);
    directories = directory_values rules.encoding is_big (directories_at rules first) t.directories;
    file_formats = formats_in rules.encoding (formats_of_files t);
    files = facts_of_files rules.encoding is_big (files_at rules is_big first t) t;
    program = b.program;
    unit_directory = option_map string unit.directory;
    unit_file = option_map file_named unit.name;
  }

  fields_again : (first : ℕ) (unit : LineUnit) (b : Bounds) → b.encoding ≡ rules.encoding
      → Again is_big first (header_fields limit unit.directory unit.name b) (header_for first unit b)
      (spelled_header rules is_big t)
  unfolding header_fields
  fields_again first unit b same =
      let parameters = spelled_parameters rules in
      again_onward _ (again_same (λ v. ap (λ (c : Encoding). line_parameters c.version v) same)
      (parameters_again is_big first rules can.buildable can.instruction_is_byte can.operations_are_byte
      can.one_operation))
      (again_onward _ (opcodes_again is_big (first + length parameters))
      (again_onward _ (again_same (λ v. ap (λ (c : Encoding). directories limit c v) same)
      (directories_again (directories_at rules first)))
      (again_then _ (again_same (λ v. ap (λ (c : Encoding). files limit c v) same)
      (files_again (files_at rules is_big first t))) (λ v. refl))))

  -- where the fields begin, after the sizes and the second length
  abbrev after_sizes : ℕ → ℕ
  after_sizes first = first + length (spelled_sizes rules.encoding is_big)
      + length (number_bytes is_big (word_size rules.encoding.format) (length (spelled_header rules is_big t)))

  abbrev bounds_for : ℕ → ℕ → Encoding → ℕ → View → Bounds
  bounds_for offset unit_length e header_length program =
      record {
        offset = offset;
        unit_length = unit_length;
        encoding = e;
        header_length = header_length;
        program = program;
      }

  -- what the first length counts
  in_again : (offset first : ℕ) (unit : LineUnit) → unit.address_bytes ≡ rules.encoding.address_size
      → value_of (header_in limit offset unit (length (spelled_body rules is_big t program)) rules.encoding.format
      (bytes_at is_big first (spelled_body rules is_big t program)))
      ≡ Ok (header_value rules is_big offset (after_sizes first) unit t program)
  unfolding header_in
  in_again offset first unit sized =
      let e = rules.encoding in
      let header = spelled_header rules is_big t in
      let size = length header in
      let whole = length (spelled_body rules is_big t program) in
      let length_of = number_bytes is_big (word_size e.format) size in
      let at = after_sizes first in
      let program_at = bytes_at is_big (at + size) program in
      let ended : header ++ [] ≡ header = append-nil header in
      ap (λ (r : Result (Encoding × View) Error).
      value_of (proceed r (λ c. word limit e.format >>= λ n.
      (part n >>= λ h. (here >>= λ p. within h
      (header_fields limit unit.directory unit.name (bounds_for offset whole c n p)))))))
      ((sizes_again is_big first e unit.address_bytes can.not_before_2 can.not_after_5 can.buildable.has_address_size
      sized).again (length_of ++ (header ++ program)))
      ∙ ap (λ (r : Result (ℕ × View) Error).
      value_of (proceed r (λ n. part n >>= λ h.
      (here >>= λ p. within h (header_fields limit unit.directory unit.name (bounds_for offset whole e n p))))))
      ((word_again limit is_big (first + length (spelled_sizes e is_big)) e.format size
      (header_below (256 ^ word_size e.format) body_fits.1) (header_below limit can.small)).again
      (header ++ program))
      ∙ ap (λ (r : Result (View × View) Error).
      value_of (proceed r (λ h. here >>= λ p.
      within h (header_fields limit unit.directory unit.name (bounds_for offset whole e size p)))))
      ((part_is is_big at header).again program)
      ∙ ap
      (λ bytes. value_of (lift (value_of
      (header_fields limit unit.directory unit.name (bounds_for offset whole e size program_at)
      (bytes_at is_big at bytes))) program_at)) (sym ended)
      ∙ ap (λ (r : Result (LineHeader × View) Error). value_of (lift (value_of r) program_at))
      ((fields_again at unit (bounds_for offset whole e size program_at) refl).again [])

  -- a header and its program, whatever follows them
  pub unit_again : (offset first : ℕ) (unit : LineUnit) → unit.address_bytes ≡ rules.encoding.address_size
      → Again is_big first (line_header limit offset unit)
      (header_value rules is_big offset (fields_at rules is_big first t program) unit t program)
      (spelled_unit rules is_big t program)
  unfolding line_header
  unit_again offset first unit sized =
      let n = length (spelled_body rules is_big t program) in
      let at = first + length (spelled_length rules.encoding.format is_big n) in
      again_onward (λ l. part l.0 >>= λ bytes. within bytes (header_in limit offset unit l.0 l.1))
      (length_again limit is_big first rules.encoding.format n can.length_fits can.small)
      (again_then (λ bytes. within bytes (header_in limit offset unit n rules.encoding.format))
      (part_is is_big at (spelled_body rules is_big t program))
      (λ v. ap (λ (r : Result LineHeader Error). lift r v) (in_again offset at unit sized)))
