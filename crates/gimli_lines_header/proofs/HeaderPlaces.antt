-- A header is where its lengths say, and its tables in the bytes that its own length counts.
use Rattle.std.proofs.Common.{◌≡◌, ℕ, ◌+◌, ◌*◌, ◌<◌, ◌≤◌, ◌≢◌, Bool, eqb, leb, not, ◌&&◌, List, [], length, Ok, refl, sym, ◌∙◌, ap, subst, arith}
use Rattle.std.proofs.lemmas.Bool.{and_parts, leb-true, ne_eqb}
use Rattle.std.proofs.lemmas.List.{length-take}
use Rattle.std.specs.Prelude.{◌==◌, ◌-◌, if◌then◌else◌, Option}
use Rattle.gimli_units_headers.specs.Error.{Error}
use Rattle.gimli_units_headers.specs.Error.TheVariants.{UnknownVersion}
use Rattle.gimli_units_headers.specs.View.{View, after, prefix, bytes_left}
use Rattle.gimli_units_headers.specs.Parsers.{Parser, ◌>>=◌, branch, demand, give}
use Rattle.gimli_units_headers.proofs.StepSizes.{AtMost, sizes}
use Rattle.gimli_units_headers.specs.Repetition.{times}
use Rattle.gimli_units_headers.specs.NumberParsers.{unsigned}
use Rattle.gimli_units_headers.proofs.NumberReadSizes.{number_sizes, Below-unsigned}
use Rattle.gimli_units_headers.specs.Encoding.{Encoding}
use Rattle.gimli_units_headers.specs.Format.{Format}
use Rattle.gimli_units_headers.specs.FormatSizes.{initial_length_size, word_size}
use Rattle.gimli_units_headers.proofs.ByteCountLemmas.{Took, took_left, took_both, took_same, Yields, yields-Ok, yields-Err, yields-proceed, yields-cond, yields-weaker, yields-within, fixed_took, part_took, word_took, address_size_took, initial_length_took}
use Rattle.gimli_lines_header.specs.declared.formats.FileEntryFormat.{FileEntryFormat}
use Rattle.gimli_lines_header.specs.LineHeaders.{LineHeader}
use Rattle.gimli_lines_header.specs.TableEntries.{entry_format, entry_formats, directory_entry, file_entry}
use Rattle.gimli_lines_header.specs.HeaderTables.{directory_texts, file_texts, directory_entries, file_entries, directories_of_5, directories, files_of_5, files}
use Rattle.gimli_lines_header.specs.HeaderParsing.{LineUnit, Bounds, encoding_of_5, line_sizes, operations, operations_of_4, line_parameters, opcodes, header_fields, header_in, line_header}
use Rattle.gimli_lines_header.specs.LineHeaderLaws.{sizes_bytes, counted_bytes, LengthsDelimit, LengthsDelimitHeaders, bytes_needed, TablesFit}
use Rattle.gimli_lines_header.proofs.TextSizes.{directory_text-takes, file_text-takes}
use Rattle.gimli_lines_header.proofs.TableSizes.{times_room, all_room, directory_entry-takes, file_entry-takes, entry_format-takes}

-- ---- sizes

demand_same : (b : Bool) (e : Error) (s : View) → Yields (λ x w. w ≡ s) (demand b e s)
demand_same b e s = yields-cond b (λ _. yields-Ok tt s refl) (λ _. yields-Err e)

-- the sizes of a format, and the bytes that they took
record AreSizes (format : Format) (v : View) (e : Encoding) (w : View) : Type 0 where
  in_format : e.format ≡ format
  took : Took (sizes_bytes e) v w

sizes_of_5 : (format : Format) (v s : View) → Took 2 v s
    → Yields (λ e w. AreSizes format v e w) (encoding_of_5 format s)
unfolding encoding_of_5
sizes_of_5 format v s h =
    yields-proceed (address_size_took s) (λ size t j.
    yields-proceed (fixed_took 1 t) (λ segment u k.
    yields-proceed (demand_same (eqb segment 0) _ u) (λ x w same.
    yields-Ok _ w (record {
      in_format = refl;
      took = subst (λ (z : View). Took 4 v z) (sym same) (took_same (took_both h (took_both j.1 k)) refl);
    }))))

sizes_are : (format : Format) (bytes : ℕ) (v : View) → Yields (λ e w. AreSizes format v e w) (line_sizes format bytes v)
unfolding line_sizes
sizes_are format bytes v =
    yields-proceed (fixed_took 2 v) (λ version s h.
    yields-cond (leb 2 version && leb version 4)
    (λ known.
    let upto : version ≤ 4 = leb-true version 4 (and_parts (leb 2 version) (leb version 4) known).1 in
    let older : version ≢ 5 = omega arith in
    let none : 2 ≡ 2 + (if version == 5 then 2 else 0) =
    ap (λ (b : Bool). 2 + (if b then 2 else 0)) (sym (ne_eqb version 5 older)) in
    yields-Ok _ s (record { in_format = refl; took = took_same h none })) (λ _.
    yields-cond (eqb version 5) (λ _. sizes_of_5 format v s h) (λ _. yields-Err (UnknownVersion version))))

-- ---- tables

-- w has at least k bytes less than v
record TakesAtLeast (k : ℕ) (v w : View) : Type 0 where
  enough : bytes_left w + k ≤ bytes_left v

operations-leave : (version : ℕ) (v : View) (n : ℕ) → bytes_left v ≤ n → AtMost bytes_left n (operations version v)
unfolding operations operations_of_4
operations-leave version v n h = search (arith, sizes, number_sizes) depth 40

parameters-leave : (version : ℕ) (v : View) (n : ℕ) → bytes_left v ≤ n → AtMost bytes_left n (line_parameters version v)
unfolding line_parameters
parameters-leave version v n h = search (arith, sizes, number_sizes, operations-leave) depth 60

parameters_used : (version : ℕ) (v : View) → Yields (λ x w. TakesAtLeast 0 v w) (line_parameters version v)
parameters_used version v = record {
  hold = λ x w e. let le =
      (parameters-leave version v (bytes_left v) (omega arith)).left x w e in record { enough = omega arith };
}

opcodes_used : (v : View) → Yields (λ x w. TakesAtLeast (bytes_left x.1) v w) (opcodes v)
unfolding opcodes
opcodes_used v =
    yields-proceed (fixed_took 1 v) (λ base s h.
    yields-proceed (demand_same (not (eqb base 0)) _ s) (λ x t same.
    yields-proceed (part_took (base - 1) t) (λ lengths w k.
    yields-Ok (base, lengths) w (
    let one = took_left h in
    let more = took_left k.1 in
    let at : bytes_left t ≡ bytes_left s = ap bytes_left same in
    let size : bytes_left lengths ≡ bytes_left (prefix (base - 1) t) = ap bytes_left k.0 in
    record { enough = omega (arith, length-take (base - 1) t.bytes) }))))

directory_texts_used : (v : View) → Yields (λ ds w. TakesAtLeast (length ds) v w) (directory_texts v)
unfolding directory_texts
directory_texts_used v = record {
  hold = λ ds w e. let room = all_room (record { takes = directory_text-takes }) v w ds
      e in record { enough = omega arith };
}

file_texts_used : (v : View) → Yields (λ fs w. TakesAtLeast (length fs) v w) (file_texts v)
unfolding file_texts
file_texts_used v = record {
  hold = λ fs w e. let room = all_room (record { takes = file_text-takes }) v w fs e in
      record { enough = omega arith };
}

formats_used : (v : View) → Yields (λ fs w. TakesAtLeast (2 * length fs) v w) (entry_formats v)
unfolding entry_formats
formats_used v =
    yields-proceed (fixed_took 1 v) (λ count s h.
    yields-proceed (list_takes count s) (λ formats t k.
    yields-proceed (demand_same _ _ t) (λ x w same.
    yields-Ok formats w (
    let one = took_left h in
    let more = k.enough in
    let at : bytes_left w ≡ bytes_left t = ap bytes_left same in
    record { enough = omega arith }))))
  where
    list_takes : (count : ℕ) (s : View) → Yields (λ fs w. TakesAtLeast (2 * length fs) s w) (times count entry_format s)
    list_takes count s = record {
      hold = λ fs w e. let room =
          times_room 2 (record { takes = λ a b x r. entry_format-takes a b x r }) count s w fs e in
          record { enough = omega arith };
    }

number_used : (v : View) → Yields (λ n w. TakesAtLeast 0 v w) (unsigned v)
number_used v = record {
  hold = λ n w e. let less = (Below-unsigned {n = bytes_left v} v (omega arith)).left n w e in
      record { enough = omega arith };
}

-- as many items as a number says, each of which takes a byte
counted_used : {A : Type 0} (p : Parser A)
    → ((v w : View) (x : A) → p v ≡ Ok (x, w) → bytes_left w < bytes_left v) → (v : View)
    → Yields (λ xs w. TakesAtLeast (length xs) v w) ((unsigned >>= λ count. times count p) v)
counted_used p less v =
    yields-proceed (number_used v) (λ count s h. record {
      hold = λ xs w read.
          let room = times_room 1 (record {
            takes = λ a b x r. (let one = less a b x r in omega arith);
          }) count s w xs read in
          let some = h.enough in
          record { enough = omega arith };
    })

directory_entries_used : (limit : ℕ) (e : Encoding) (formats : List FileEntryFormat) (v : View)
    → Yields (λ ds w. TakesAtLeast (length ds) v w) (directory_entries limit e formats v)
unfolding directory_entries
directory_entries_used limit e formats v =
    counted_used (directory_entry limit e formats) (directory_entry-takes limit e formats) v

file_entries_used : (limit : ℕ) (e : Encoding) (formats : List FileEntryFormat) (v : View)
    → Yields (λ fs w. TakesAtLeast (length fs) v w) (file_entries limit e formats v)
unfolding file_entries
file_entries_used limit e formats v = counted_used (file_entry limit e formats) (file_entry-takes limit e formats) v

-- a table: texts, or formats and what they describe
table_used : {A : Type 0} (b : Bool) (texts : Parser (List A)) (entries : List FileEntryFormat → Parser (List A))
    → ((v : View) → Yields (λ xs w. TakesAtLeast (length xs) v w) (texts v))
    → ((formats : List FileEntryFormat) (v : View) → Yields (λ xs w. TakesAtLeast (length xs) v w) (entries formats v))
    → (v : View)
    → Yields (λ (p : List FileEntryFormat × List A) w. TakesAtLeast (2 * length p.0 + length p.1) v w)
    (branch b (texts >>= λ xs. give ([], xs))
    (entry_formats >>= λ formats. (entries formats >>= λ xs. give (formats, xs))) v)
table_used {A} b texts entries few_texts few_entries v =
    yields-cond b
    (λ _. yields-proceed (few_texts v) (λ xs s h. yields-Ok ([], xs) s (let some = h.enough in
    record { enough = omega arith })))
    (λ _. yields-proceed (formats_used v)
    (λ formats s h. yields-proceed (few_entries formats s) (λ xs t k.
    yields-Ok (formats, xs) t (let some = h.enough in let more = k.enough in record { enough = omega arith }))))

directories_used : (limit : ℕ) (e : Encoding) (v : View)
    → Yields (λ ds w. TakesAtLeast (2 * length ds.0 + length ds.1) v w) (directories limit e v)
unfolding directories directories_of_5
directories_used limit e v =
    table_used (leb e.version 4) directory_texts (directory_entries limit e) directory_texts_used
    (directory_entries_used limit e) v

files_used : (limit : ℕ) (e : Encoding) (v : View)
    → Yields (λ fs w. TakesAtLeast (2 * length fs.0 + length fs.1) v w) (files limit e v)
unfolding files files_of_5
files_used limit e v =
    table_used (leb e.version 4) file_texts (file_entries limit e) file_texts_used (file_entries_used limit e) v

-- ---- the header

-- a header within its bounds, with the bytes of its tables
record IsBounded (b : Bounds) (v : View) (h : LineHeader) : Type 0 where
  length_is : h.unit_length ≡ b.unit_length
  encoding_is : h.encoding ≡ b.encoding
  header_length_is : h.header_length ≡ b.header_length
  program_is : h.program ≡ b.program
  room : bytes_needed h ≤ bytes_left v

fields_bounded : (limit : ℕ) (directory name : Option View) (b : Bounds) (v : View)
    → Yields (λ h w. IsBounded b v h) (header_fields limit directory name b v)
unfolding header_fields
fields_bounded limit directory name b v =
    yields-proceed (parameters_used b.encoding.version v) (λ parameters s h.
    yields-proceed (opcodes_used s) (λ base t j.
    yields-proceed (directories_used limit b.encoding t) (λ ds u k.
    yields-proceed (files_used limit b.encoding u) (λ fs w l.
    yields-Ok _ w (record {
      length_is = refl;
      encoding_is = refl;
      header_length_is = refl;
      program_is = refl;
      room =
          (let first = h.enough in let second = j.enough in let third = k.enough in let last = l.enough in omega arith);
    })))))

-- a header in a number of bytes
record IsIn (unit_length : ℕ) (format : Format) (bytes : View) (h : LineHeader) : Type 0 where
  long : h.unit_length ≡ unit_length
  in_format : h.encoding.format ≡ format
  program_at : h.program ≡ after (sizes_bytes h.encoding + (word_size format + h.header_length)) bytes
  room : bytes_needed h ≤ h.header_length

header_is_in : (limit offset : ℕ) (unit : LineUnit) (unit_length : ℕ) (format : Format) (v : View)
    → Yields (λ h w. IsIn unit_length format v h) (header_in limit offset unit unit_length format v)
unfolding header_in
header_is_in limit offset unit unit_length format v =
    yields-proceed (sizes_are format unit.address_bytes v) (λ e s h.
    yields-proceed (word_took limit format s) (λ header_length t j.
    yields-proceed (part_took header_length t) (λ header program k.
    yields-weaker (yields-within {P = λ x. IsBounded (bounds e header_length program) header x} header
    (header_fields limit unit.directory unit.name (bounds e header_length program)) program
    (fields_bounded limit unit.directory unit.name (bounds e header_length program) header))
    (λ x w found. record {
      long = found.0.length_is;
      in_format = ap (λ (d : Encoding). d.format) found.0.encoding_is ∙ h.in_format;
      program_at = found.0.program_is ∙ (took_both h.took (took_both j k.1)).rest
          ∙ same_place x e header_length (sym found.0.encoding_is) (sym found.0.header_length_is);
      room = (let fits = found.0.room in
          let size : bytes_left header ≡ bytes_left (prefix header_length t) = ap bytes_left k.0 in
          let is = found.0.header_length_is in
          omega (arith, length-take header_length t.bytes));
    }))))
  where
    bounds : Encoding → ℕ → View → Bounds
    bounds e header_length program = record {
      offset = offset;
      unit_length = unit_length;
      encoding = e;
      header_length = header_length;
      program = program;
    }

    same_place : (x : LineHeader) (e : Encoding) (n : ℕ) → e ≡ x.encoding → n ≡ x.header_length
        → after (sizes_bytes e + (word_size format + n)) v
        ≡ after (sizes_bytes x.encoding + (word_size format + x.header_length)) v
    same_place x e n same long = ap (λ (d : Encoding). after (sizes_bytes d + (word_size format + n)) v) same
        ∙ ap (λ (m : ℕ). after (sizes_bytes x.encoding + (word_size format + m)) v) long

-- what is so of a header at the start of v, where w is left
record IsWhole (v : View) (h : LineHeader) (w : View) : Type 0 where
  delimits : LengthsDelimit v h w
  room : bytes_needed h ≤ h.header_length

header_is_whole : (limit offset : ℕ) (unit : LineUnit) (v : View)
    → Yields (λ h w. IsWhole v h w) (line_header limit offset unit v)
unfolding line_header
header_is_whole limit offset unit v =
    yields-proceed (initial_length_took limit v) (λ l s h.
    yields-proceed (part_took l.0 s) (λ bytes t j.
    yields-weaker (yields-within {P = λ x. IsIn l.0 l.1 bytes x} bytes (header_in limit offset unit l.0 l.1) t
    (header_is_in limit offset unit l.0 l.1 bytes))
    (λ x w found.
    let both = took_both h j.1 in
    let size : initial_length_size l.1 + l.0 ≡ initial_length_size x.encoding.format + x.unit_length =
    same_size l.0 l.1 x found.0.long found.0.in_format in
    record {
      delimits = record {
        program =
            found.0.program_at
            ∙ same_place l.0 l.1 x bytes (j.0 ∙ ap (prefix l.0) h.rest) found.0.long found.0.in_format;
        after_program = found.1 ∙ both.rest ∙ ap (λ (n : ℕ). after n v) size;
        enough = (let fits = both.enough in omega arith);
      };
      room = found.0.room;
    })))
  where
    same_size : (n : ℕ) (format : Format) (x : LineHeader) → x.unit_length ≡ n → x.encoding.format ≡ format
        → initial_length_size format + n ≡ initial_length_size x.encoding.format + x.unit_length
    same_size n format x long same = ap (λ (f : Format). initial_length_size f + n) (sym same)
        ∙ ap (λ (m : ℕ). initial_length_size x.encoding.format + m) (sym long)

    same_place : (n : ℕ) (format : Format) (x : LineHeader) (bytes : View)
        → bytes ≡ prefix n (after (initial_length_size format) v) → x.unit_length ≡ n → x.encoding.format ≡ format
        → after (sizes_bytes x.encoding + (word_size format + x.header_length)) bytes
        ≡ after (sizes_bytes x.encoding + (word_size x.encoding.format + x.header_length)) (counted_bytes v x)
    same_place n format x bytes is long same =
        ap (λ (b : View). after (sizes_bytes x.encoding + (word_size format + x.header_length)) b) is
        ∙ ap (λ (m : ℕ). after (sizes_bytes x.encoding + (word_size format + x.header_length))
        (prefix m (after (initial_length_size format) v))) (sym long)
        ∙ ap (λ (f : Format). after (sizes_bytes x.encoding + (word_size f + x.header_length))
        (prefix x.unit_length (after (initial_length_size f) v))) (sym same)

pub lengths_delimit_headers : LengthsDelimitHeaders
lengths_delimit_headers limit offset unit v rest h read =
    ((header_is_whole limit offset unit v).hold h rest read).delimits

pub tables_fit : TablesFit
tables_fit limit offset unit v rest h read = ((header_is_whole limit offset unit v).hold h rest read).room
