-- What is known of a unit that was read: its offset, the bytes that it takes, and the sizes of its header and entries.
use Rattle.std.proofs.Common.{◌≡◌, ℕ, ◌+◌, ◌<◌, ◌≤◌, ◌≢◌, Bool, false, leb, eqb, Ok, refl, sym, ap, arith, ◌&&◌}
use Rattle.std.proofs.lemmas.Bool.{and_parts, leb-true, ne_eqb}
use Rattle.std.specs.Prelude.{IsTrue, ◌==◌, if◌then◌else◌}
use Rattle.gimli_core_base.specs.declared.error.Error.TheVariants.{UnknownVersion, UnsupportedUnitType}
use Rattle.gimli_core_base.specs.View.{View, bytes_left}
use Rattle.gimli_core_base.specs.Parsers.{value_of}
use Rattle.gimli_core_base.proofs.StepParts.{value_of-Ok}
use Rattle.gimli_core_base.specs.declared.common.Format.{Format}
use Rattle.gimli_core_base.specs.FormatSizes.{initial_length_size, word_size}
use Rattle.gimli_core_base.specs.NumberParsers.{is_address_size}
use Rattle.gimli_units_headers.specs.SectionParts.{counted_part}
use Rattle.gimli_units_headers.specs.UnitHeaders.{UnitKind, compilation, type_unit, partial, skeleton, split_compilation, split_type, DebugUnit, HeaderFields, unit_type, with_dwo_id, with_signature, kind_of_type, fields_to_4, fields_of_5, unit_fields, unit_in, unit, length_including_self, kind_size, fields_size, IsWellFormed}
use Rattle.gimli_core_readers.proofs.ByteCountLemmas.{Took, took_left, took_both, took_same, Yields, yields-Ok, yields-Err, yields-proceed, yields-cond, yields-weaker, fixed_took, word_took, address_size_took}
use Rattle.gimli_core_readers.proofs.TilingLemmas.{Parts, counted_parts}

-- ---- what a type adds

dwo_id_took : (k : ℕ → UnitKind) (format : Format) → ((id : ℕ) → kind_size format (k id) ≡ 8) → (v : View)
    → Yields (λ kind w. Took (kind_size format kind) v w) (with_dwo_id k v)
unfolding with_dwo_id
dwo_id_took k format size v =
    yields-proceed (fixed_took 8 v) (λ id s h. yields-Ok (k id) s (took_same h (sym (size id))))

signature_took : (k : ℕ → ℕ → UnitKind) (limit : ℕ) (format : Format)
    → ((signature offset : ℕ) → kind_size format (k signature offset) ≡ 8 + word_size format) → (v : View)
    → Yields (λ kind w. Took (kind_size format kind) v w) (with_signature limit format k v)
unfolding with_signature
signature_took k limit format size v =
    yields-proceed (fixed_took 8 v) (λ signature s h.
    yields-proceed (word_took limit format s)
    (λ offset t j. yields-Ok (k signature offset) t (took_same (took_both h j) (sym (size signature offset)))))

nothing_took : (v : View) → Took 0 v v
nothing_took v =
    record { rest = (let place : v.first ≡ v.first + 0 = omega arith in ap at place); enough = omega arith }
  where
    at : ℕ → View
    at n = record { bytes = v.bytes; is_big = v.is_big; first = n }

kind_took : (limit : ℕ) (format : Format) (t : ℕ) (v : View)
    → Yields (λ kind w. Took (kind_size format kind) v w) (kind_of_type limit format t v)
unfolding kind_of_type
kind_took limit format t v =
    yields-cond (eqb t 1) (λ _. yields-Ok compilation v (nothing_took v)) (λ _.
    yields-cond (eqb t 2) (λ _. signature_took type_unit limit format (λ signature offset. refl) v) (λ _.
    yields-cond (eqb t 3) (λ _. yields-Ok partial v (nothing_took v)) (λ _.
    yields-cond (eqb t 4) (λ _. dwo_id_took skeleton format (λ id. refl) v) (λ _.
    yields-cond (eqb t 5) (λ _. dwo_id_took split_compilation format (λ id. refl) v) (λ _.
    signature_took split_type limit format (λ signature offset. refl) v)))))

unit_type_took : (v : View) → Yields (λ t w. Took 1 v w) (unit_type v)
unfolding unit_type
unit_type_took v =
    yields-proceed (fixed_took 1 v)
    (λ t s h. yields-cond _ (λ _. yields-Ok t s h) (λ _. yields-Err (UnsupportedUnitType (record { 0 = t }))))

-- ---- the fields

-- fields in a format, and the bytes that they take
record AreFields (format : Format) (v : View) (f : HeaderFields) (w : View) : Type 0 where
  in_format : f.encoding.format ≡ format
  has_address_size : IsTrue (is_address_size f.encoding.address_size)
  took : Took (fields_size f.encoding f.kind) v w

-- without a unit type
no_type : (word_bytes type_bytes : ℕ) → type_bytes ≡ 0 → 2 + (word_bytes + 1) ≡ 2 + type_bytes + 1 + word_bytes + 0
no_type word_bytes type_bytes h = omega arith

to_4_are : (limit : ℕ) (format : Format) (version : ℕ) (v s : View) → Took 2 v s → eqb version 5 ≡ false
    → Yields (λ f w. AreFields format v f w) (fields_to_4 limit format version s)
unfolding fields_to_4
to_4_are limit format version v s h older =
    yields-proceed (word_took limit format s) (λ abbrev_offset t j.
    yields-proceed (address_size_took t) (λ size u k.
    yields-Ok _ u (record {
      in_format = refl;
      has_address_size = k.0;
      took =
          took_same (took_both h (took_both j k.1))
          (no_type (word_size format) (if version == 5 then 1 else 0) (ap (λ (b : Bool). if b then 1 else 0) older));
    })))

of_5_are : (limit : ℕ) (format : Format) (v s : View) → Took 2 v s
    → Yields (λ f w. AreFields format v f w) (fields_of_5 limit format s)
unfolding fields_of_5
of_5_are limit format v s h =
    yields-proceed (unit_type_took s) (λ t s1 h1.
    yields-proceed (address_size_took s1) (λ size s2 h2.
    yields-proceed (word_took limit format s2) (λ abbrev_offset s3 h3.
    yields-proceed (kind_took limit format t s3) (λ kind s4 h4.
    yields-Ok _ s4 (record {
      in_format = refl;
      has_address_size = h2.0;
      took = took_same (took_both h (took_both h1 (took_both h2.1 (took_both h3 h4)))) (omega arith);
    })))))

fields_are : (limit : ℕ) (format : Format) (v : View)
    → Yields (λ f w. AreFields format v f w) (unit_fields limit format v)
unfolding unit_fields
fields_are limit format v =
    yields-proceed (fixed_took 2 v) (λ version s h.
    yields-cond (leb 2 version && leb version 4)
    (λ known. let upto : version ≤ 4 = leb-true version 4 (and_parts (leb 2 version) (leb version 4) known).1 in
    let older : version ≢ 5 = omega arith in to_4_are limit format version v s h (ne_eqb version 5 older)) (λ _.
    yields-cond (eqb version 5) (λ _. of_5_are limit format v s h) (λ _. yields-Err (UnknownVersion version))))

-- ---- the unit

-- a unit in the bytes that its length counts, all of them there
record IsUnitIn (limit offset unit_length : ℕ) (format : Format) (bytes : View) (u : DebugUnit) : Type 0 where
  at_offset : u.offset ≡ offset
  long : u.unit_length ≡ unit_length
  in_format : u.encoding.format ≡ format
  has_address_size : IsTrue (is_address_size u.encoding.address_size)
  took : Took (fields_size u.encoding u.kind) bytes u.entries

unit_in_is : (limit offset unit_length : ℕ) (format : Format) (v : View)
    → Yields (λ u w. IsUnitIn limit offset unit_length format v u) (unit_in limit offset unit_length format v)
unfolding unit_in
unit_in_is limit offset unit_length format v =
    yields-proceed (fields_are limit format v) (λ f s h.
    yields-Ok _ s
    (record
    { at_offset = refl; long = refl; in_format = h.in_format; has_address_size = h.has_address_size; took = h.took }))

-- a unit of bytes whose end is an offset
pub unit_is_well_formed : (limit offset unit_length : ℕ) (format : Format) (v : View) (u : DebugUnit)
    → bytes_left v ≡ unit_length → offset + (initial_length_size format + unit_length) < limit
    → value_of (unit_in limit offset unit_length format v) ≡ Ok u → IsWellFormed limit u
unit_is_well_formed limit offset unit_length format v u whole fits e =
    let found = value_of-Ok (unit_in limit offset unit_length format v) u e in
    let is = (unit_in_is limit offset unit_length format v).hold u found.0 found.1 in
    let at_offset = is.at_offset in
    let long = is.long in
    let entries = took_left is.took in
    let length_size : initial_length_size u.encoding.format ≡ initial_length_size format =
    ap initial_length_size is.in_format in
    record { has_address_size = is.has_address_size; is_whole = omega arith; fits = omega arith }

-- units are parts of a section that lie end to end
pub units_are_parts : (limit : ℕ) → Parts (unit limit) (λ u. u.offset) length_including_self
unfolding counted_part
units_are_parts limit =
    counted_parts (λ (u : DebugUnit). u.offset) (λ u. u.unit_length) (λ u. u.encoding.format) limit
    (λ offset l. unit_in limit offset l.0 l.1)
    (λ offset l v. yields-weaker (unit_in_is limit offset l.0 l.1 v)
    (λ u w is. record { at_offset = is.at_offset; long = is.long; in_format = is.in_format }))

-- by the fields that are read
pub unit_in_is_read : (limit offset unit_length : ℕ) (format : Format) (v : View) (fields : HeaderFields) (w : View)
    → unit_fields limit format v ≡ Ok (fields, w) → value_of (unit_in limit offset unit_length format v) ≡ Ok (record {
      offset = offset;
      unit_length = unit_length;
      encoding = fields.encoding;
      kind = fields.kind;
      abbrev_offset = fields.abbrev_offset;
      entries = w;
    })
unfolding unit_in
unit_in_is_read limit offset unit_length format v fields w h = rw h refl
