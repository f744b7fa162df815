-- What an image says of the files with its debugging information: its build identifier, and the
-- sections that name other files (GDB manual, "Debugging Information in Separate Files"). A section
-- that isn't there, can't be read or is malformed says nothing.
use Rattle.std.specs.Prelude.{ℕ, ◌+◌, ◌==◌, ◌||◌, not, Bool, true, List, [], ◌∷◌, length, codes, Option, Some, None, option_and_then, Result, Ok, Err, alloc_error, if◌then◌else◌}
use Rattle.gimli_core_readers.specs.View.{View}
use Rattle.gimli_core_readers.specs.Parsers.{Parser, ◌>>=◌, give, here, skip, null_terminated, value_of}
use Rattle.gimli_core_readers.specs.NumberParsers.{fixed}
use Rattle.std.specs.declared.alloc.AllocError.{AllocError}
use Rattle.addr2line_elf.specs.declared.error.LoadError.{LoadError}
use Rattle.addr2line_elf.specs.declared.error.LoadError.TheVariants.{Memory}
use Rattle.addr2line_elf.specs.ElfImages.{Image, section_named}
use Rattle.addr2line_debug_files.specs.declared.links.DebugLink.{DebugLink}
use Rattle.addr2line_debug_files.specs.declared.links.SupplementLink.{SupplementLink}
use Rattle.addr2line_debug_files.specs.Notes.{padding, first_build_id}

-- ---- what can be read

-- the value, unless it is refused
abbrev pub readable : {A E : Type 0} → Result A E → Option A
readable (Ok x) = Some x
readable (Err e) = None

-- the same of what was loaded, unless memory was refused
abbrev pub if_readable : {A : Type 0} → Result A LoadError → Result (Option A) AllocError
if_readable (Ok x) = Ok (Some x)
if_readable (Err Memory) = Err alloc_error
if_readable (Err e) = Ok None

-- the bytes of the section of a name
abbrev pub readable_section : List ℕ → Image → Option View
readable_section name image = readable (section_named name image)

-- bytes, if there are some
abbrev pub if_some_bytes : List ℕ → Option (List ℕ)
if_some_bytes [] = None
if_some_bytes (b ∷ bs) = Some (b ∷ bs)

-- ---- the build identifier

-- the descriptor of the first note of a build identifier, unless it is empty
abbrev pub build_id_in : View → Option (List ℕ)
build_id_in section =
    option_and_then (λ descriptor. if_some_bytes descriptor.bytes) (first_build_id section)

abbrev pub build_id : Image → Option (List ℕ)
build_id image = option_and_then build_id_in (readable_section (codes ".note.gnu.build-id") image)

-- ---- the debug link

-- a name that ends in zero, padding, and the CRC-32 of the file
unfoldable pub debug_link_fields : Parser DebugLink
debug_link_fields = do
  name ← null_terminated
  name_padding ← skip (padding (length name.bytes + 1))
  crc ← fixed 4
  give (record { name = name.bytes; crc = crc })

-- a link, unless its name is empty
abbrev pub if_named : DebugLink → Option DebugLink
if_named link = if length link.name == 0 then None else Some link

abbrev pub debug_link_in : View → Option DebugLink
debug_link_in section = option_and_then if_named (readable (value_of (debug_link_fields section)))

abbrev pub debug_link : Image → Option DebugLink
debug_link image = option_and_then debug_link_in (readable_section (codes ".gnu_debuglink") image)

-- ---- the link to a supplement (DWARF 5, 7.3.6)

-- a name that ends in zero, and then the build identifier of the file
unfoldable pub supplement_link_fields : Parser SupplementLink
supplement_link_fields = do
  name ← null_terminated
  identifier ← here
  give (record { name = name.bytes; build_id = identifier.bytes })

-- a link, unless its name or its identifier is empty
abbrev pub if_complete : SupplementLink → Option SupplementLink
if_complete link =
    if length link.name == 0 || length link.build_id == 0 then None else Some link

abbrev pub supplement_link_in : View → Option SupplementLink
supplement_link_in section =
    option_and_then if_complete (readable (value_of (supplement_link_fields section)))

abbrev pub supplement_link : Image → Option SupplementLink
supplement_link image =
    option_and_then supplement_link_in (readable_section (codes ".gnu_debugaltlink") image)

-- ---- debugging information

-- A section that can't be read isn't empty: whoever loads it gets its refusal.
abbrev pub has_bytes : Result View LoadError → Bool
has_bytes (Ok view) = not (length view.bytes == 0)
has_bytes (Err e) = true

-- the image has a section with units (DWARF 5, 7.5), compressed or not
abbrev pub has_debug_info : Image → Bool
has_debug_info image =
    has_bytes (section_named (codes ".debug_info") image)
    || has_bytes (section_named (codes ".zdebug_info") image)
