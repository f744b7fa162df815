-- The symbols of an image (System V ABI, "Symbol Table").
use Rattle.std.specs.Prelude.{◌≡◌, ℕ, ◌-◌, ◌/◌, ◌%◌, ◌<◌, ◌≤◌, ◌==◌, ◌&&◌, ◌||◌, not, nat_lt, nat_le, Bool, true, List, [], ◌∷◌, ◌++◌, length, filter, Option, Some, None, Result, Ok, if◌then◌else◌}
use Rattle.std.specs.List.{find, filter_map}
use Rattle.std.specs.Option.{option_and_then}
use Rattle.std.specs.Str.{is_utf8}
use Rattle.gimli_core_readers.specs.View.{View}
use Rattle.gimli_core_readers.specs.Repetition.{times}
use Rattle.addr2line_elf.specs.declared.class.Class.{Class}
use Rattle.addr2line_elf.specs.declared.constants.TheConstants.{SHN_UNDEF, SHT_SYMTAB, SHT_DYNSYM, STT_FUNC}
use Rattle.addr2line_elf.specs.declared.error.LoadError.{LoadError}
use Rattle.addr2line_elf.specs.declared.headers.SectionHeader.{SectionHeader}
use Rattle.addr2line_elf.specs.declared.symbol_entries.SymbolEntry.{SymbolEntry}
use Rattle.addr2line_elf.specs.ElfClasses.{symbol_size}
use Rattle.addr2line_elf.specs.SymbolEntries.{symbol_entry}
use Rattle.gimli_core_readers.specs.Results.{◌>>=◌}
use Rattle.addr2line_elf.specs.ImageLoading.{read_in}
use Rattle.addr2line_elf.specs.ElfTexts.{text_at}
use Rattle.addr2line_elf.specs.ElfImages.{Image, contents, linked_contents}

-- a symbol with a name: its address, and its size in bytes, 0 if that isn't known
pub record NamedSymbol : Type 0 where
  pub name : List ℕ
  pub address : ℕ
  pub size : ℕ

-- ---- the symbols that are looked up

-- a text of UTF-8 that isn't empty
abbrev pub is_name : List ℕ → Bool
is_name text = not (length text == 0) && is_utf8 text

abbrev pub as_name : List ℕ → Option (List ℕ)
as_name text = if is_name text then Some text else None

abbrev pub named_symbol : SymbolEntry → Option (List ℕ) → Option NamedSymbol
named_symbol e None = None
named_symbol e (Some name) = Some (record { name = name; address = e.value; size = e.size })

-- a symbol's type, the low four bits of its info
abbrev pub symbol_type : SymbolEntry → ℕ
symbol_type e = e.info % 16

-- it is defined in a section, and is without a type (STT_NOTYPE), a datum (STT_OBJECT) or a
-- function
abbrev pub is_defined : SymbolEntry → Bool
is_defined e = not (e.section == SHN_UNDEF) && nat_le (symbol_type e) STT_FUNC

abbrev pub symbol_of : List ℕ → SymbolEntry → Option NamedSymbol
symbol_of texts e =
    if is_defined e then named_symbol e (option_and_then as_name (text_at texts e.name)) else None

-- ---- the table

-- a section, or else another
abbrev pub section_or : Option SectionHeader → Option SectionHeader → Option SectionHeader
section_or None other = other
section_or (Some h) other = Some h

-- the first section with all symbols, or else with those of dynamic linking
abbrev pub symbol_table : List SectionHeader → Option SectionHeader
symbol_table sections =
    section_or (find (λ h. h.section_type == SHT_SYMTAB) sections)
    (find (λ h. h.section_type == SHT_DYNSYM) sections)

-- its entries, end to end, as many as there is room for
abbrev pub entries_in : Class → View → Result (List SymbolEntry) LoadError
entries_in class table =
    read_in table (times (length table.bytes / symbol_size class) (symbol_entry class))

-- its symbols, with their names in the section whose index is its link
abbrev pub symbols_in : Class → View → View → Result (List NamedSymbol) LoadError
symbols_in class table texts = do
  entries ← entries_in class table
  Ok (filter_map (symbol_of texts.bytes) entries)

abbrev pub symbols_at : Option SectionHeader → Image → Result (List NamedSymbol) LoadError
symbols_at None image = Ok []
symbols_at (Some h) image = do
  table ← contents h image.file
  texts ← linked_contents h.link image.sections image.file
  symbols_in image.class table texts

-- the symbols of an image, in order
abbrev pub symbols_of : Image → Result (List NamedSymbol) LoadError
symbols_of image = symbols_at (symbol_table image.sections) image

-- ---- the symbol of an address

-- an address is at the begin or after it, and before the end where that is known
abbrev pub covers : ℕ → ℕ → ℕ → Bool
covers begin size address = nat_le begin address && (size == 0 || nat_lt (address - begin) size)

abbrev pub holds : ℕ → NamedSymbol → Bool
holds address s = covers s.address s.size address

-- the symbol of the greatest address, and of several of them the first
abbrev pub first_highest : NamedSymbol → Option NamedSymbol → Option NamedSymbol
first_highest s None = Some s
first_highest s (Some t) = if nat_lt s.address t.address then Some t else Some s

abbrev pub higher : Option NamedSymbol → Option NamedSymbol → Option NamedSymbol
higher None other = other
higher (Some s) other = first_highest s other

abbrev pub highest : List NamedSymbol → Option NamedSymbol
highest [] = None
highest (s ∷ ss) = first_highest s (highest ss)

-- a symbol, if it holds the address
abbrev pub if_holds : ℕ → Option NamedSymbol → Option NamedSymbol
if_holds address None = None
if_holds address (Some s) = if holds address s then Some s else None

-- of those that hold the address
abbrev pub symbol_at : ℕ → List NamedSymbol → Option NamedSymbol
symbol_at address symbols = highest (filter (holds address) symbols)

-- each symbol of a list that holds the address
abbrev pub EachHolding : ℕ → (NamedSymbol → Type 0) → List NamedSymbol → Type 0
EachHolding address P [] = Unit {0}
EachHolding address P (t ∷ ts) = (holds address t ≡ true → P t) × EachHolding address P ts

-- It is one of the symbols and holds the address; of the others that do, those before it have lower
-- addresses, and those after it no higher ones.
pub record IsFirstHighest (address : ℕ) (symbols : List NamedSymbol) (s : NamedSymbol)
    : Type 0 where
  pub before : List NamedSymbol
  pub after : List NamedSymbol
  pub whole : symbols ≡ before ++ s ∷ after
  pub holds_it : holds address s ≡ true
  pub lower_before : EachHolding address (λ t. t.address < s.address) before
  pub no_higher_after : EachHolding address (λ t. t.address ≤ s.address) after
