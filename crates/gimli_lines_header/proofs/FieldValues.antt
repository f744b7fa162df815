-- What the value of a field is, by the form: as an attribute's of no name.
use Rattle.std.proofs.Common.{◌≡◌, ℕ, ◌+◌, ◌≤◌, Bool, true, false, cond, eqb, ◌&&◌, None, Result, Ok, Err, refl, sym, ◌∙◌, ap}
use Rattle.std.proofs.lemmas.Bool.{ltb-false}
use Rattle.std.proofs.lemmas.List.{length-take-le}
use Rattle.std.specs.Prelude.{◌==◌, not, nat_lt}
use Rattle.gimli_units_headers.specs.Error.{Error}
use Rattle.gimli_units_headers.specs.View.{View, after, bytes_left, unexpected_end}
use Rattle.gimli_units_headers.specs.Parsers.{Parser, ◌>>=◌, proceed, give, lift, part, map_value, null_terminated, skip, find_byte, text_to}
use Rattle.gimli_units_headers.specs.Encoding.{Encoding}
use Rattle.gimli_units_headers.specs.FormatSizes.{word_size}
use Rattle.gimli_units_headers.specs.NumberParsers.{fixed, unsigned, signed, word, sized_offset, offset_below, initial_length, length_of}
use Rattle.gimli_units_headers.specs.Format.{Format}
use Rattle.gimli_units_headers.proofs.StepParts.{state_is}
use Rattle.gimli_units_forms.proofs.RunLemmas.{skip_text-is}
use Rattle.gimli_units_forms.specs.FormSpellings.{spelling}
use Rattle.gimli_units_forms.specs.AttributeValues.{RawValue, RawAttribute, block, data_1, data_2, data_4, data_8, data_16, signed_data, unsigned_data, flag, section_offset, string_reference, string_reference_sup, string_offsets_index, line_string_reference, string}
use Rattle.gimli_units_forms.specs.AttributeReading.{attribute, value, spelled_value, raw_attribute, number_value, meanings, meaning_in, offset, offset_or_fault, data_of_word, bytes_by_length}
use Rattle.gimli_lines_header.specs.TableEntries.{is_entry_form, entry_value}
use Rattle.gimli_lines_header.proofs.CheckSteps.{left_at}
use Rattle.gimli_lines_header.proofs.FieldSizes.{own_form}

both_false : (b : Bool) → b && false ≡ false
both_false true = refl
both_false false = refl

-- under no name, data of an offset's width is a number
pub number_is : (limit : ℕ) (e : Encoding) (form n : ℕ)
    → number_value limit e 0 form n ≡ meaning_in meanings form limit n
unfolding number_value
number_is limit e form n =
    ap (λ (b : Bool). cond b (offset section_offset limit n) (meaning_in meanings form limit n))
    (both_false (eqb form (data_of_word e.format)))

value_alone : (form : ℕ) (r : Result (RawValue × View) Error)
    → proceed (proceed r (λ x. give (raw_attribute 0 form x))) (λ (a : RawAttribute). give a.value) ≡ r
value_alone form (Ok r) = refl
value_alone form (Err d) = refl

-- the value of a field in a form that isn't indirect is what it spells
pub field_is : (limit : ℕ) (e : Encoding) (form : ℕ) (v : View) → is_entry_form form ≡ true → eqb form 0x16 ≡ false
    → entry_value limit e form v ≡ spelled_value limit e 0 form None (spelling e form) v
unfolding entry_value attribute value
field_is limit e form v known direct =
    rw known (rw (own_form form v direct)
    (value_alone form (spelled_value limit e 0 form None (spelling e form) v)))

-- a value that isn't refused
abbrev answer : RawValue → Result RawValue Error
answer x = Ok x

-- a number that was read, whatever it means
abbrev numbered : ℕ → Encoding → ℕ → Result (ℕ × View) Error → Result (RawValue × View) Error
numbered limit e form r = proceed r (λ n. lift (number_value limit e 0 form n))

-- a form of plain numbers, which are never refused
pub number_read : (limit : ℕ) (e : Encoding) (form : ℕ) (kind : ℕ → RawValue) (r : Result (ℕ × View) Error)
    → ((n : ℕ) → meaning_in meanings form limit n ≡ answer (kind n))
    → numbered limit e form r ≡ proceed r (λ n. give (kind n))
number_read limit e form kind (Ok r) means =
    ap (λ (a : Result RawValue Error). lift a r.1) (number_is limit e form r.0 ∙ means r.0)
number_read limit e form kind (Err d) means = refl

-- a form of offsets, which must be below the limit
pub offset_read : (limit : ℕ) (e : Encoding) (form : ℕ) (kind : ℕ → RawValue) (r : Result (ℕ × View) Error)
    → ((n : ℕ) → meaning_in meanings form limit n ≡ offset_or_fault kind (offset_below limit n))
    → numbered limit e form r ≡ proceed (proceed r (λ n. lift (offset_below limit n))) (λ n. give (kind n))
offset_read limit e form kind (Ok r) means =
    ap (λ (a : Result RawValue Error). lift a r.1) (number_is limit e form r.0 ∙ means r.0)
    ∙ by_offset (offset_below limit r.0)
  where
    by_offset : (o : Result ℕ Error) → lift (offset_or_fault kind o) r.1 ≡ proceed (lift o r.1) (λ n. give (kind n))
    by_offset (Ok n) = refl
    by_offset (Err d) = refl
offset_read limit e form kind (Err d) means = refl

-- ---- numbers by their parts

pub sized_offset_is : (limit n : ℕ) (v : View)
    → sized_offset limit n v ≡ proceed (fixed n v) (λ o. lift (offset_below limit o))
unfolding sized_offset
sized_offset_is limit n v = refl

pub word_is : (limit : ℕ) (format : Format) (v : View)
    → word limit format v ≡ proceed (fixed (word_size format) v) (λ o. lift (offset_below limit o))
unfolding word sized_offset
word_is limit format v = refl

pub initial_length_is : (limit : ℕ) (v : View)
    → initial_length limit v ≡ proceed (fixed 4 v) (λ w. length_of limit w)
unfolding initial_length
initial_length_is limit v = refl

-- those of a length
pub ruleset length_parts = (initial_length_is, sized_offset_is)

-- ---- form by form

pub data_1_is : (limit : ℕ) (e : Encoding) (v : View) → entry_value limit e 0x0b v ≡ map_value data_1 (fixed 1) v
unfolding spelling
data_1_is limit e v = field_is limit e 0x0b v refl refl ∙ number_read limit e 0x0b data_1 (fixed 1 v) (λ n. refl)

pub data_2_is : (limit : ℕ) (e : Encoding) (v : View) → entry_value limit e 0x05 v ≡ map_value data_2 (fixed 2) v
unfolding spelling
data_2_is limit e v = field_is limit e 0x05 v refl refl ∙ number_read limit e 0x05 data_2 (fixed 2 v) (λ n. refl)

pub data_4_is : (limit : ℕ) (e : Encoding) (v : View) → entry_value limit e 0x06 v ≡ map_value data_4 (fixed 4) v
unfolding spelling
data_4_is limit e v = field_is limit e 0x06 v refl refl ∙ number_read limit e 0x06 data_4 (fixed 4 v) (λ n. refl)

pub data_8_is : (limit : ℕ) (e : Encoding) (v : View) → entry_value limit e 0x07 v ≡ map_value data_8 (fixed 8) v
unfolding spelling
data_8_is limit e v = field_is limit e 0x07 v refl refl ∙ number_read limit e 0x07 data_8 (fixed 8 v) (λ n. refl)

pub udata_is : (limit : ℕ) (e : Encoding) (v : View) → entry_value limit e 0x0f v ≡ map_value unsigned_data unsigned v
unfolding spelling
udata_is limit e v = field_is limit e 0x0f v refl refl ∙ number_read limit e 0x0f unsigned_data (unsigned v) (λ n. refl)

pub flag_is : (limit : ℕ) (e : Encoding) (v : View)
    → entry_value limit e 0x0c v ≡ map_value (λ n. flag (not (n == 0))) (fixed 1) v
unfolding spelling
flag_is limit e v =
    field_is limit e 0x0c v refl refl ∙ number_read limit e 0x0c (λ n. flag (not (n == 0))) (fixed 1 v) (λ n. refl)

pub data_16_is : (limit : ℕ) (e : Encoding) (v : View) → entry_value limit e 0x1e v ≡ map_value data_16 (fixed 16) v
unfolding spelling
data_16_is limit e v = field_is limit e 0x1e v refl refl

pub sdata_is : (limit : ℕ) (e : Encoding) (v : View) → entry_value limit e 0x0d v ≡ map_value signed_data signed v
unfolding spelling
sdata_is limit e v = field_is limit e 0x0d v refl refl

pub string_is : (limit : ℕ) (e : Encoding) (v : View) → entry_value limit e 0x08 v ≡ map_value string null_terminated v
unfolding spelling
string_is limit e v = field_is limit e 0x08 v refl refl

-- a block, after a length that is read so
abbrev pub block_by : ℕ → Parser ℕ → Parser RawValue
block_by limit length = map_value block (length >>= λ n. lift (offset_below limit n) >>= part)

pub block_is : (limit : ℕ) (e : Encoding) (v : View) → entry_value limit e 0x09 v ≡ block_by limit unsigned v
unfolding spelling bytes_by_length
block_is limit e v = field_is limit e 0x09 v refl refl

pub block_1_is : (limit : ℕ) (e : Encoding) (v : View) → entry_value limit e 0x0a v ≡ block_by limit (fixed 1) v
unfolding spelling bytes_by_length
block_1_is limit e v = field_is limit e 0x0a v refl refl

pub block_2_is : (limit : ℕ) (e : Encoding) (v : View) → entry_value limit e 0x03 v ≡ block_by limit (fixed 2) v
unfolding spelling bytes_by_length
block_2_is limit e v = field_is limit e 0x03 v refl refl

pub block_4_is : (limit : ℕ) (e : Encoding) (v : View) → entry_value limit e 0x04 v ≡ block_by limit (fixed 4) v
unfolding spelling bytes_by_length
block_4_is limit e v = field_is limit e 0x04 v refl refl

pub strp_is : (limit : ℕ) (e : Encoding) (v : View)
    → entry_value limit e 0x0e v ≡ map_value string_reference (word limit e.format) v
unfolding spelling word sized_offset
strp_is limit e v =
    field_is limit e 0x0e v refl refl
    ∙ offset_read limit e 0x0e string_reference (fixed (word_size e.format) v) (λ n. refl)

pub line_strp_is : (limit : ℕ) (e : Encoding) (v : View)
    → entry_value limit e 0x1f v ≡ map_value line_string_reference (word limit e.format) v
unfolding spelling word sized_offset
line_strp_is limit e v =
    field_is limit e 0x1f v refl refl
    ∙ offset_read limit e 0x1f line_string_reference (fixed (word_size e.format) v) (λ n. refl)

pub strp_sup_is : (limit : ℕ) (e : Encoding) (v : View)
    → entry_value limit e 0x1d v ≡ map_value string_reference_sup (word limit e.format) v
unfolding spelling word sized_offset
strp_sup_is limit e v =
    field_is limit e 0x1d v refl refl
    ∙ offset_read limit e 0x1d string_reference_sup (fixed (word_size e.format) v) (λ n. refl)

pub sec_offset_is : (limit : ℕ) (e : Encoding) (v : View)
    → entry_value limit e 0x17 v ≡ map_value section_offset (word limit e.format) v
unfolding spelling word sized_offset
sec_offset_is limit e v =
    field_is limit e 0x17 v refl refl
    ∙ offset_read limit e 0x17 section_offset (fixed (word_size e.format) v) (λ n. refl)

-- an index among the offsets of strings, of a number that is read so
abbrev pub index_by : ℕ → Parser ℕ → Parser RawValue
index_by limit number = map_value string_offsets_index (number >>= λ n. lift (offset_below limit n))

pub strx_is : (limit : ℕ) (e : Encoding) (v : View) → entry_value limit e 0x1a v ≡ index_by limit unsigned v
unfolding spelling
strx_is limit e v =
    field_is limit e 0x1a v refl refl ∙ offset_read limit e 0x1a string_offsets_index (unsigned v) (λ n. refl)

pub strx_1_is : (limit : ℕ) (e : Encoding) (v : View) → entry_value limit e 0x25 v ≡ index_by limit (fixed 1) v
unfolding spelling
strx_1_is limit e v =
    field_is limit e 0x25 v refl refl ∙ offset_read limit e 0x25 string_offsets_index (fixed 1 v) (λ n. refl)

pub strx_2_is : (limit : ℕ) (e : Encoding) (v : View) → entry_value limit e 0x26 v ≡ index_by limit (fixed 2) v
unfolding spelling
strx_2_is limit e v =
    field_is limit e 0x26 v refl refl ∙ offset_read limit e 0x26 string_offsets_index (fixed 2 v) (λ n. refl)

pub strx_3_is : (limit : ℕ) (e : Encoding) (v : View) → entry_value limit e 0x27 v ≡ index_by limit (fixed 3) v
unfolding spelling
strx_3_is limit e v =
    field_is limit e 0x27 v refl refl ∙ offset_read limit e 0x27 string_offsets_index (fixed 3 v) (λ n. refl)

pub strx_4_is : (limit : ℕ) (e : Encoding) (v : View) → entry_value limit e 0x28 v ≡ index_by limit (fixed 4) v
unfolding spelling
strx_4_is limit e v =
    field_is limit e 0x28 v refl refl ∙ offset_read limit e 0x28 string_offsets_index (fixed 4 v) (λ n. refl)

-- ---- the forms of some fields

-- the usual ones of a path
pub ruleset path_forms = (line_strp_is, strp_is, string_is)

-- the usual ones of a directory's number
pub ruleset directory_forms = (udata_is, data_1_is, data_2_is)

-- those of a number
pub ruleset number_forms = (directory_forms, data_4_is, data_8_is, sdata_is)

-- the usual ones of version 5
pub ruleset usual_forms = (line_strp_is, udata_is, data_16_is)

-- all
pub ruleset entry_forms = (
  path_forms,
  number_forms,
  data_16_is,
  flag_is,
  block_is,
  block_1_is,
  block_2_is,
  block_4_is,
  strp_sup_is,
  sec_offset_is,
  strx_is,
  strx_1_is,
  strx_2_is,
  strx_3_is,
  strx_4_is,
)

-- ---- texts that are skipped

abbrev refused : View → Result ((Unit {0}) × View) Error
refused v = Err (unexpected_end v)

room_by : (n : ℕ) (v u : View) (b : Bool) → nat_lt (bytes_left v) n ≡ b
    → cond b (refused v) (left_at (after n v)) ≡ left_at u → n ≤ bytes_left v
room_by n v u true is h = absurd cc
room_by n v u false is h = ltb-false (bytes_left v) n is

-- a text is skipped with its zero byte
pub text_skipped : (n k : ℕ) (v u t : View) → k ≡ n → find_byte 0 v ≡ Ok n → skip n v ≡ Ok (tt {0}, u) → t ≡ after 1 u
    → map_value bytes_left null_terminated v ≡ Ok (k, t)
text_skipped n k v u t is f s e =
    let room = room_by n v u (nat_lt (bytes_left v) n) refl s in
    let rest : after (n + 1) v ≡ t = state_is (tt {0}) (tt {0}) (after (n + 1) v) t
    (sym (ap (λ (r : Result ℕ Error). proceed (text_to r v) (λ _. give (tt {0}))) f) ∙ skip_text-is n v u t f s e) in
    ap (λ (r : Result ℕ Error). proceed (text_to r v) (λ text. give (bytes_left text))) f
    ∙ ap (λ (j : ℕ). both j (after (n + 1) v)) (length-take-le n v.bytes room ∙ sym is)
    ∙ ap (λ (x : View). both k x) rest
  where
    both : ℕ → View → Result (ℕ × View) Error
    both j x = Ok (j, x)
