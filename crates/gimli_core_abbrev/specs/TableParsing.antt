-- How an abbreviation table is read (DWARF 5, 7.5.3).
use Rattle.std.specs.Prelude.{◌≡◌, ◌≤◌, ℕ, ℤ, ◌==◌, Bool, true, false, not, ◌&&◌, List, [], ◌∷◌, length, Option, Some, None, Result, Ok, Err}
use Rattle.gimli_core_readers.specs.Error.{Error}
use Rattle.gimli_core_readers.specs.Error.TheVariants.{AbbreviationTagZero, AttributeNameZero, AttributeFormZero, InvalidAbbreviationChildren, DuplicateAbbreviationCode}
use Rattle.gimli_core_readers.specs.TheConstants.{DW_FORM_implicit_const, DW_CHILDREN_no, DW_CHILDREN_yes}
use Rattle.gimli_core_readers.specs.View.{View, bytes_left, after}
use Rattle.gimli_core_readers.specs.Parsers.{Parser, ◌>>=◌, ◌>>◌, give, fail, branch, demand, skip, value_of, proceed}
use Rattle.gimli_core_readers.specs.Repetition.{Listing, listing_in, all_of, whole}
use Rattle.gimli_core_readers.specs.NumberParsers.{fixed, unsigned, unsigned_16, signed}
use Rattle.gimli_core_abbrev.specs.Declarations.{Attribute, Declaration, by_code, repeated_code}

-- ---- attributes

-- the form whose value is in the declaration itself (DWARF 5, 7.5.6)
abbrev pub implicit_const_form : ℕ
implicit_const_form = DW_FORM_implicit_const.0

-- the value that the declaration holds: a signed LEB128 number for one form, none for the others
unfoldable pub implicit_const : ℕ → Parser (Option ℤ)
implicit_const form =
    branch (form == implicit_const_form) (signed >>= λ value. give (Some value)) (give None)

-- an attribute whose name and form aren't both 0
unfoldable pub attribute_of : ℕ → ℕ → Parser (Option Attribute)
attribute_of name form = do
  demand (not (name == 0)) AttributeNameZero
  demand (not (form == 0)) AttributeFormZero
  value ← implicit_const form
  give (Some (record { name = name; form = form; implicit_const = value }))

-- an attribute, or none at the pair of zeros that ends them
unfoldable pub attribute : Parser (Option Attribute)
attribute = do
  name ← unsigned_16
  form ← unsigned_16
  branch (name == 0 && form == 0) (give None) (attribute_of name form)

-- The first two bytes are an attribute, or the pair of zeros that ends them.
abbrev pub IsShortAttribute : List ℕ → Option Attribute → Type 0
IsShortAttribute bytes found =
    (2 ≤ length bytes)
    × ((v : View) → v.bytes ≡ bytes → attribute v ≡ Ok (found, after 2 v))

unfoldable pub attributes : Parser (List Attribute)
attributes = all_of bytes_left attribute

-- ---- declarations

-- the byte that says whether children follow
unfoldable pub children : Parser Bool
children = do
  byte ← fixed 1
  branch (byte == DW_CHILDREN_no.0) (give false)
      (branch (byte == DW_CHILDREN_yes.0) (give true) (fail (InvalidAbbreviationChildren byte)))

-- what follows a code
unfoldable pub declaration_of : ℕ → Parser Declaration
declaration_of code = do
  tag ← unsigned_16
  demand (not (tag == 0)) AbbreviationTagZero
  has_children ← children
  specifications ← attributes
  give (record { code = code; tag = tag; has_children = has_children; attributes = specifications })

-- a declaration, or none at the code 0 that ends the table
unfoldable pub coded_declaration : Parser (Option Declaration)
coded_declaration = do
  code ← unsigned
  branch (code == 0) (give None) (declaration_of code >>= λ declaration. give (Some declaration))

-- the end of the bytes ends the table too
abbrev pub unless_ended : {A : Type 0} → List ℕ → Parser (Option A) → Parser (Option A)
unless_ended [] p v = Ok (None, v)
unless_ended (b ∷ bytes) p v = p v

unfoldable pub declaration : Parser (Option Declaration)
declaration v = unless_ended v.bytes coded_declaration v

-- ---- the table

-- Declarations laid end to end, up to the first fault. A repeated code counts where its declaration
-- ends, and so before a fault of one after it.
abbrev pub distinct : Option ℕ → Result (List Declaration × View) Error
    → Result (List Declaration × View) Error
distinct (Some code) read = Err (DuplicateAbbreviationCode code)
distinct None read = read

abbrev pub table_of : Listing View Declaration → Result (List Declaration × View) Error
table_of listing =
    distinct (repeated_code listing.items) (proceed (whole listing) (λ ds. give (by_code ds)))

-- the declarations by their codes
unfoldable pub table : Parser (List Declaration)
table v = table_of (listing_in bytes_left declaration v)

-- the table that begins at an offset of a section
abbrev pub table_at : ℕ → View → Result (List Declaration) Error
table_at offset section = value_of ((skip offset >> table) section)
