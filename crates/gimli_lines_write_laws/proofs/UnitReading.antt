-- A unit that was written is read again.
use Rattle.std.proofs.Common.{◌≡◌, ◌≢◌, ℕ, ◌+◌, ◌<◌, ◌≤◌, Bool, true, false, List, [], ◌∷◌, ◌++◌, length, map, Result, Ok, refl, sym, ap, subst, ◌∙◌, arith}
use Rattle.std.specs.Prelude.{nat_le, All}
use Rattle.std.proofs.lemmas.Bool.{le-leb, lt-leb}
use Rattle.std.proofs.lemmas.List.Elements.{All-nil, All-head}
use Rattle.gimli_lines_write_unit.specs.Format.{Format}
use Rattle.gimli_lines_write_unit.specs.LineRules.{LineRules}
use Rattle.gimli_lines_write_laws.proofs.RowAnswers.{rows_answered}
use Rattle.gimli_lines_write_unit.specs.HeaderParsing.{LineUnit, line_header}
use Rattle.gimli_lines_write_unit.specs.LineEntry.{LineEntry}
use Rattle.gimli_lines_write_unit.specs.WriteError.{Error}
use Rattle.gimli_lines_write_unit.specs.Address.{Address}
use Rattle.gimli_lines_write_unit.specs.RowPieces.{IsBuildable}
use Rattle.gimli_lines_write_unit.specs.UnitBytes.{unit_bytes}
use Rattle.gimli_lines_write_unit.specs.HeaderTexts.{form_of, form_in, form_in_version, IsReadableText, IsEntry}
use Rattle.gimli_lines_write_unit.specs.FileTables.{Text, in_header, of_strings, of_line_strings, HasNoZero, HasBytes}
use Rattle.gimli_lines_write_unit.specs.EntryFields.{WrittenFile, IsReadableFile}
use Rattle.gimli_lines_write_unit.specs.HeaderSpelling.{Tables, path_form, source_form, spelled_body, fields_at, header_value}
use Rattle.gimli_lines_write_unit.specs.HeaderReadBack.{FitsVersion4, FitsVersion5, CanWrite}
use Rattle.gimli_lines_write_unit.proofs.LineUnitsAgain.{below_back, unit_again}
use Rattle.gimli_lines_write_laws.specs.UnitReadBack.{IsBelow, FileBelow, FileReadsBack, records_sources, TablesReadBack, UnitReadsBack}
use Rattle.gimli_lines_write_laws.proofs.SpelledPieces.{Fits}
use Rattle.gimli_lines_write_laws.proofs.TableBytes.{TextIs, FileIs, header_is}
use Rattle.gimli_lines_write_laws.proofs.UnitBytesAgain.{UnitIs, unit_is}
use Rattle.gimli_lines_write_unit.specs.BytesAt.{bytes_at}
use Rattle.gimli_lines_write_unit.specs.NumberBytes.{spelled_length}

-- ---- texts

text_readable : (limit : ℕ) (format : Format) (t : Text) → HasNoZero t → IsBelow limit t → Fits format t
    → IsReadableText limit format t
text_readable limit format (in_header text) free below fits = free
text_readable limit format (of_strings offset) free below fits = (below, fits)
text_readable limit format (of_line_strings offset) free below fits = (below, fits)

text_listed : (t : Text) → form_of t ≡ 0x08 → HasBytes t → IsEntry t
text_listed (in_header text) is filled = filled
text_listed (of_strings offset) is filled = absurd (omega arith)
text_listed (of_line_strings offset) is filled = absurd (omega arith)

-- sources that aren't recorded
plain_form : (files : List WrittenFile) → All (λ (f : WrittenFile). f.source ≡ in_header []) files
    → form_in (map (λ (f : WrittenFile). f.source) files) ≡ 0x08
plain_form [] all = refl
plain_form (f ∷ files) all = ap form_of (All-head (λ (f : WrittenFile). f.source ≡ in_header []) f files all)

module _ (rules : LineRules) (t : Tables) (read_back : TablesReadBack rules.encoding.version t) where
  -- the text of a file
  source_readable : (limit : ℕ) (f : WrittenFile) → HasNoZero f.source → IsBelow limit f.source
      → FileIs rules.encoding t.details (path_form t) (source_form t) f
      → (records_sources rules.encoding.version t ≡ false → f.source ≡ in_header [])
      → IsReadableText limit rules.encoding.format f.source
  source_readable limit f free below is plain = by (nat_le rules.encoding.version 4) t.details.has_source refl refl
    where
      by : (a b : Bool) → nat_le rules.encoding.version 4 ≡ a → t.details.has_source ≡ b
          → IsReadableText limit rules.encoding.format f.source
      by false true p q = text_readable limit rules.encoding.format f.source free below (is.1 p q).1
      by true b p q = subst (λ s. IsReadableText limit rules.encoding.format s) (sym (plain (rw p refl)))
          (All-nil (λ b. b ≢ 0))
      by false false p q = subst (λ s. IsReadableText limit rules.encoding.format s) (sym (plain (rw (p, q) refl)))
          (All-nil (λ b. b ≢ 0))

  file_readable : (limit : ℕ) (f : WrittenFile) → FileReadsBack f → FileBelow limit f
      → FileIs rules.encoding t.details (path_form t) (source_form t) f
      → (records_sources rules.encoding.version t ≡ false → f.source ≡ in_header [])
      → IsReadableFile limit rules.encoding.format f
  file_readable limit f is below well_formed plain = record {
    path = text_readable limit rules.encoding.format f.path is.path below.path well_formed.0.1;
    directory = is.directory;
    timestamp = is.timestamp;
    size = is.size;
    md5 = is.md5;
    source = source_readable limit f is.source below.source well_formed plain;
  }

  -- texts up to version 4
  fits_to_4 : All (TextIs rules.encoding (form_in_version rules.encoding.version (form_in t.directories))) t.directories
      → All (FileIs rules.encoding t.details (path_form t) (source_form t)) t.files → rules.encoding.version ≤ 4
      → FitsVersion4 t
  fits_to_4 ds fs old =
      let earlier : nat_le rules.encoding.version 4 ≡ true = le-leb rules.encoding.version 4 old in
      record {
        directories = λ k d h. text_listed _ (rw earlier at (ds k d h).0) (read_back.directories_not_empty old k d h);
        paths = λ k d h. text_listed _ (rw earlier at (fs k d h).0.0) (read_back.paths_not_empty old k d h);
      }

  -- texts in version 5
  fits_in_5 : All (TextIs rules.encoding (form_in_version rules.encoding.version (form_in t.directories))) t.directories
      → All (FileIs rules.encoding t.details (path_form t) (source_form t)) t.files → 4 < rules.encoding.version
      → FitsVersion5 t
  fits_in_5 ds fs new = by t.details.has_source refl
    where
      later : nat_le rules.encoding.version 4 ≡ false
      later = lt-leb rules.encoding.version 4 new

      paths : All (λ (f : WrittenFile). form_of f.path ≡ path_form t) t.files
      paths = λ k d h. rw later at (fs k d h).0.0

      directories : All (λ (d : Text). form_of d ≡ form_in t.directories) t.directories
      directories = λ k d h. rw later at (ds k d h).0

      by : (b : Bool) → t.details.has_source ≡ b → FitsVersion5 t
      by true is = record { directories = directories; paths = paths; sources = λ k d h. ((fs k d h).1 later is).0 }
      by false is =
          let plain = read_back.no_sources (rw (later, is) refl) in
          record {
            directories = directories;
            paths = paths;
            sources = λ k d h. ap form_of (plain k d h)
                ∙ sym (plain_form t.files plain);
          }

-- ---- the unit

one_is : (n : ℕ) → 0 < n → n ≤ 1 → n ≡ 1
one_is n above below = omega arith

-- A unit that was written: its header is read, whatever follows it, for each reader that can hold its length and the
-- offsets of texts.
pub record UnitIsRead (address_of : Address → Result ℕ Error) (is_big : Bool) (rules : LineRules) (t : Tables)
    (entries : List LineEntry) (bytes : List ℕ) : Type 0 where
  pub unit : UnitIs address_of is_big rules t entries bytes
  pub header : (limit offset first : ℕ) (line_unit : LineUnit) (rest : List ℕ) → length bytes < limit
      → All (IsBelow limit) t.directories → All (FileBelow limit) t.files
      → line_unit.address_bytes ≡ rules.encoding.address_size
      → line_header limit offset line_unit (bytes_at is_big first (bytes ++ rest))
      ≡ Ok (
        header_value rules is_big offset (fields_at rules is_big first t unit.program) line_unit t unit.program,
        bytes_at is_big (first + length bytes) rest,
      )

pub unit_is_read : (address_of : Address → Result ℕ Error) (rules : LineRules) (t : Tables) (entries : List LineEntry)
    (is_big : Bool) (bytes : List ℕ) → IsBuildable rules → rules.line_encoding.minimum_instruction_length < 256
    → rules.line_encoding.maximum_operations_per_instruction < 256 → TablesReadBack rules.encoding.version t
    → unit_bytes address_of is_big rules t entries ≡ Ok bytes → UnitIsRead address_of is_big rules t entries bytes
unit_is_read address_of rules t entries is_big bytes can_build byte few read_back h =
    let parts = unit_is address_of is_big rules t entries bytes h in
    let version = parts.0 in
    let unit = parts.1 in
    let tables = header_is rules.encoding t unit.none_refused in
    record {
      unit = unit;
      header = λ limit offset first line_unit rest small directories_below files_below sized.
          let can : CanWrite limit rules is_big t unit.program = record {
            not_before_2 = version.0;
            not_after_5 = version.1;
            buildable = can_build;
            instruction_is_byte = byte;
            operations_are_byte = few;
            one_operation = λ old. one_is rules.line_encoding.maximum_operations_per_instruction
                can_build.has_operations (version.2 old);
            directories = λ k d w. text_readable limit rules.encoding.format _ (read_back.directories k d w)
                (directories_below k d w) (tables.0 k d w).1;
            files = λ k d w. file_readable rules t read_back limit _ (read_back.files k d w)
                (files_below k d w)
                (tables.1 k d w) (λ absent. read_back.no_sources absent k d w);
            to_4 = fits_to_4 rules t read_back tables.0 tables.1;
            in_5 = fits_in_5 rules t read_back tables.0 tables.1;
            length_fits = unit.length_fits;
            small = below_back (spelled_length rules.encoding.format is_big
                (length (spelled_body rules is_big t unit.program))) (spelled_body rules is_big t unit.program) limit
                (subst (λ l. length l < limit) unit.bytes_are small);
          } in
          subst (λ l. line_header limit offset line_unit (bytes_at is_big first (l ++ rest))
          ≡ Ok (
            header_value rules is_big offset (fields_at rules is_big first t unit.program) line_unit t unit.program,
            bytes_at is_big (first + length l) rest,
          )) (sym unit.bytes_are)
          ((unit_again limit rules is_big t unit.program can offset first line_unit sized).again rest);
    }

pub unit_reads_back : UnitReadsBack
unit_reads_back address_of rules t entries is_big bytes constants can_build byte few read_back f readable h =
    let read = unit_is_read address_of rules t entries is_big bytes can_build byte few read_back h in
    record {
      program = read.unit.program;
      header = read.header;
      runs = rows_answered address_of constants rules can_build entries f readable is_big read.unit.program
          read.unit.entries_are;
    }
