-- Laws of whole tables.
use Rattle.std.specs.Prelude.{◌≡◌, ◌≢◌, ℕ, ◌+◌, ◌-◌, ◌*◌, ◌≤◌, List, ◌∷◌, ◌++◌, length, sum_by, None, Result, Ok, Err, IsOk, IsErr}
use Rattle.gimli_core_readers.specs.ReaderOffsetId.{ReaderOffsetId}
use Rattle.gimli_core_readers.specs.Error.{Error}
use Rattle.gimli_core_readers.specs.Error.TheVariants.{UnexpectedEof}
use Rattle.gimli_core_readers.specs.View.{View, bytes_left, after}
use Rattle.gimli_core_readers.specs.Parsers.{◌>>◌, value_of, skip}
use Rattle.gimli_core_readers.specs.Repetition.{listing_in}
use Rattle.gimli_core_abbrev.specs.Declarations.{Declaration, declaration_at}
use Rattle.gimli_core_abbrev.specs.TableParsing.{coded_declaration, declaration, table_of, table_at}

-- the code 0 is in no table
abbrev pub NoCode0 : Type 0
NoCode0 =
    (offset : ℕ) (section : View) (table : List Declaration)
    → table_at offset section ≡ Ok table
    → declaration_at 0 table ≡ None

-- each code of a table occurs in it once: each declaration is the one that its code finds
abbrev pub CodesOccurOnce : Type 0
CodesOccurOnce =
    (offset : ℕ) (section : View) (before after : List Declaration) (d : Declaration)
    → table_at offset section ≡ Ok (before ++ d ∷ after)
    → (declaration_at d.code before ≡ None) × (declaration_at d.code after ≡ None)

-- the least bytes that a declaration takes: code, tag and children, two zeros after the
-- attributes, and two for each of them
abbrev pub bytes_needed : Declaration → ℕ
bytes_needed d = 5 + 2 * length d.attributes

-- a table needs no more than the bytes from its offset on
abbrev pub NeedsRoom : Type 0
NeedsRoom =
    (offset : ℕ) (section : View) (table : List Declaration)
    → table_at offset section ≡ Ok table
    → sum_by bytes_needed table ≤ length section.bytes - offset

-- the declarations from an offset on, in the order of the bytes
abbrev pub declarations_at : ℕ → View → List Declaration
declarations_at offset section = (listing_in bytes_left declaration (after offset section)).items

-- a code finds in a table what it finds among the declarations in the order of the bytes
abbrev pub FindsInByteOrder : Type 0
FindsInByteOrder =
    (offset code : ℕ) (section : View) (table : List Declaration) → table_at offset section
    ≡ Ok table
    → declaration_at code table ≡ declaration_at code (declarations_at offset section)

-- the section with further bytes after its own
abbrev pub with_more_bytes : List ℕ → View → View
with_more_bytes more section =
    record { bytes = section.bytes ++ more; is_big = section.is_big; first = section.first }

-- the table at an offset where the code 0 alone ends it
abbrev pub table_to_0_at : ℕ → View → Result (List Declaration) Error
table_to_0_at offset section =
    value_of ((skip offset >> λ v. table_of (listing_in bytes_left coded_declaration v)) section)

-- The end of the section closes the table: there is one, and none where the code 0 alone closes it.
abbrev pub IsEndedBySection : ℕ → View → Type 0
IsEndedBySection offset section =
    IsOk (table_at offset section) × IsErr (table_to_0_at offset section)

-- Further bytes after a section change no answer but those that depend on its end: the refusal of a
-- read that met the end, and a table that the end closed.
abbrev pub AnswersStay : Type 0
AnswersStay = (offset : ℕ) (section : View) (more : List ℕ)
    → ((id : ReaderOffsetId) → table_at offset section ≢ Err (UnexpectedEof id))
    → ¬ IsEndedBySection offset section
    → table_at offset (with_more_bytes more section) ≡ table_at offset section

-- the end of a section closes a table as a code 0 after it does
abbrev pub EndsAsCode0 : Type 0
EndsAsCode0 = (offset : ℕ) (section : View) (more : List ℕ) → IsEndedBySection offset section
    → table_at offset (with_more_bytes (0 ∷ more) section) ≡ table_at offset section
