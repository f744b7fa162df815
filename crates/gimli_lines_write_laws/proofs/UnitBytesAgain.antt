-- The bytes of a unit are those that are read again.
use Rattle.std.proofs.Common.{◌≡◌, ℕ, ◌<◌, ◌≤◌, ◌||◌, ◌&&◌, nat_lt, Bool, true, false, cond, List, [], ◌∷◌, ◌++◌, length, Result, Ok, Err, refl, sym, ap, subst, ◌∙◌, arith, append_assoc}
use Rattle.std.specs.Prelude.{if◌then◌else◌}
use Rattle.std.proofs.lemmas.Bool.{ltb-true, ltb-false}
use Rattle.gimli_lines_write_unit.specs.Format.{Format}
use Rattle.gimli_lines_write_unit.specs.Format.TheVariants.{Dwarf32, Dwarf64}
use Rattle.gimli_lines_write_unit.specs.FormatSizes.{word_size}
use Rattle.gimli_lines_write_unit.specs.Fixed.{number_bytes}
use Rattle.gimli_lines_write_unit.specs.WriteError.{Error}
use Rattle.gimli_lines_write_unit.specs.WriteError.TheVariants.{InitialLengthOverflow, UnsupportedVersion, NeedVersion}
use Rattle.gimli_lines_write_unit.specs.Address.{Address}
use Rattle.gimli_lines_write_unit.specs.NumberBytes.{bytes_in_width, escape, length_bytes, length_limit, spelled_length}
use Rattle.gimli_lines_write_unit.specs.LineRules.{LineRules}
use Rattle.gimli_lines_write_unit.specs.LineEntry.{LineEntry}
use Rattle.gimli_lines_write_unit.specs.BuiltRows.{first_row}
use Rattle.gimli_lines_write_unit.specs.EntryBytes.{join_bytes, entries_bytes}
use Rattle.gimli_lines_write_unit.specs.HeaderSpelling.{Tables, spelled_sizes, spelled_header, spelled_body, spelled_unit}
use Rattle.gimli_lines_write_unit.specs.HeaderBytes.{bytes_or_refusal, header_refusals, header_bytes}
use Rattle.gimli_lines_write_unit.specs.UnitBytes.{body_with_header, body_bytes, with_length, unit_with_length, unit_bytes}
use Rattle.gimli_lines_write_laws.proofs.SpelledPieces.{both_parts, same_ok, sized_is}

-- a length that the format can express
length_is : (is_big : Bool) (format : Format) (n : ℕ) (bytes : List ℕ) → length_bytes is_big format n ≡ Ok bytes
    → (n < length_limit format) × (bytes ≡ number_bytes is_big (word_size format) n)
length_is is_big Dwarf32 n bytes e = by (nat_lt n 0xfffffff0) refl e
  where
    by : (b : Bool) → nat_lt n 0xfffffff0 ≡ b → cond b (Ok (number_bytes is_big 4 n)) (Err InitialLengthOverflow)
        ≡ Ok bytes → (n < 0xfffffff0) × (bytes ≡ number_bytes is_big 4 n)
    by true is h = (ltb-true n 0xfffffff0 is, sym (same_ok (number_bytes is_big 4 n) bytes h))
    by false is h = absurd (cc)
length_is is_big Dwarf64 n bytes e = sized_is is_big Dwarf64 n bytes e

-- what a unit that was written consists of
pub record UnitIs (address_of : Address → Result ℕ Error) (is_big : Bool) (rules : LineRules) (t : Tables)
    (entries : List LineEntry) (bytes : List ℕ) : Type 0 where
  pub program : List ℕ
  pub none_refused : header_refusals rules.encoding t ≡ []
  pub entries_are : entries_bytes address_of is_big rules (first_row rules) entries ≡ Ok program
  pub bytes_are : bytes ≡ spelled_unit rules is_big t program
  pub length_fits : length (spelled_body rules is_big t program) < length_limit rules.encoding.format

module _ (address_of : Address → Result ℕ Error) (is_big : Bool) (rules : LineRules) (t : Tables)
    (entries : List LineEntry) where
  -- the fields of the header
  abbrev header : List ℕ
  header = spelled_header rules is_big t

  -- what follows the first length
  body_is : (body : List ℕ) → body_with_header address_of is_big rules header entries ≡ Ok body
      → (program : List ℕ) × (entries_bytes address_of is_big rules (first_row rules) entries ≡ Ok program)
      × (body ≡ spelled_body rules is_big t program)
  body_is body h =
      let e = rules.encoding in
      let rows = entries_bytes address_of is_big rules (first_row rules) entries in
      let word = bytes_in_width is_big (word_size e.format) (length header) in
      let one = both_parts (Ok (spelled_sizes e is_big)) (join_bytes word (join_bytes (Ok header) rows)) body h in
      let two = both_parts word (join_bytes (Ok header) rows) one.1 one.3 in
      let three = both_parts (Ok header) rows two.1 two.3 in
      let size = sized_is is_big e.format (length header) two.0 two.2 in
      let program = three.1 in (
        program,
        three.3,
        sym one.4 ∙ ap (λ l. l ++ one.1) (sym (same_ok (spelled_sizes e is_big) one.0 one.2))
            ∙ ap (λ l. spelled_sizes e is_big ++ l)
            (sym two.4 ∙ ap (λ l. l ++ two.1) size.1
            ∙ ap (λ l. number_bytes is_big (word_size e.format) (length header) ++ l)
            (sym three.4 ∙ ap (λ l. l ++ program) (sym (same_ok header three.0 three.2)))),
      )

  counted_is : (rs : List Error) → header_refusals rules.encoding t ≡ rs → (bytes : List ℕ)
      → with_length is_big rules.encoding.format
      (body_bytes address_of is_big rules (bytes_or_refusal rs header) entries) ≡ Ok bytes
      → UnitIs address_of is_big rules t entries bytes
  counted_is (f ∷ rs) made bytes h = absurd (cc)
  counted_is [] made bytes h = by (body_with_header address_of is_big rules header entries) refl h
    where
      by : (r : Result (List ℕ) Error) → body_with_header address_of is_big rules header entries ≡ r
          → with_length is_big rules.encoding.format r ≡ Ok bytes → UnitIs address_of is_big rules t entries bytes
      by (Err f) is k = absurd (cc)
      by (Ok body) is k =
          let format = rules.encoding.format in
          let number = length_bytes is_big format (length body) in
          let b = body_is body is in
          let one = both_parts (Ok (escape format)) (join_bytes number (Ok body)) bytes k in
          let two = both_parts number (Ok body) one.1 one.3 in
          let n = length_is is_big format (length body) two.0 two.2 in
          record {
            program = b.0;
            none_refused = made;
            entries_are = b.1;
            bytes_are = sym one.4 ∙ ap (λ l. l ++ one.1) (sym (same_ok (escape format) one.0 one.2))
                ∙ ap (λ l. escape format ++ l) (sym two.4 ∙ ap (λ l. l ++ two.1) n.1
                ∙ ap (λ l. number_bytes is_big (word_size format) (length body) ++ l)
                (sym (same_ok body two.1 two.3)))
                ∙ sym (append_assoc (escape format) (number_bytes is_big (word_size format) (length body)) body)
                ∙ ap (λ l. spelled_length format is_big (length l) ++ l) b.2;
            length_fits = subst (λ l. length l < length_limit format) b.2 n.0;
          }

  -- the version has such a header
  abbrev pub VersionIs : Type 0
  VersionIs = (2 ≤ rules.encoding.version) × (rules.encoding.version ≤ 5)
      × (rules.encoding.version ≤ 3 → rules.line_encoding.maximum_operations_per_instruction ≤ 1)

  pub unit_is : (bytes : List ℕ) → unit_bytes address_of is_big rules t entries ≡ Ok bytes → VersionIs
      × UnitIs address_of is_big rules t entries bytes
  unfolding header_bytes
  unit_is bytes h = by (nat_lt rules.encoding.version 2) (nat_lt 5 rules.encoding.version)
      (nat_lt rules.encoding.version 4) (nat_lt 1 rules.line_encoding.maximum_operations_per_instruction) refl refl refl
      refl h
    where
      by : (a b c d : Bool) → nat_lt rules.encoding.version 2 ≡ a → nat_lt 5 rules.encoding.version ≡ b
          → nat_lt rules.encoding.version 4 ≡ c → nat_lt 1 rules.line_encoding.maximum_operations_per_instruction ≡ d
          → (if a || b then Err UnsupportedVersion
          else (if c && d then Err NeedVersion else unit_with_length address_of is_big rules t entries)) ≡ Ok bytes
          → VersionIs × UnitIs address_of is_big rules t entries bytes
      by true b c d p q r s k = absurd (cc)
      by false true c d p q r s k = absurd (cc)
      by false false true true p q r s k = absurd (cc)
      by false false true false p q r s k = (
        (
          ltb-false rules.encoding.version 2 p,
          ltb-false 5 rules.encoding.version q,
          λ low. ltb-false 1 rules.line_encoding.maximum_operations_per_instruction s,
        ),
        counted_is (header_refusals rules.encoding t) refl bytes k,
      )
      by false false false d p q r s k = (
        (
          ltb-false rules.encoding.version 2 p,
          ltb-false 5 rules.encoding.version q,
          λ low. absurd (let high = ltb-false rules.encoding.version 4 r in omega arith),
        ),
        counted_is (header_refusals rules.encoding t) refl bytes k,
      )
