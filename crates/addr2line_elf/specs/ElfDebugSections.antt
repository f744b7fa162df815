-- The sections of debugging information that lookups read (DWARF 5, appendix B and 7.3.2). The
-- others count as empty.
use Rattle.std.specs.Prelude.{Bool, true, false, List, ℕ, Option, Some, None, Result, Ok, if◌then◌else◌}
use Rattle.gimli_core_readers.specs.View.{View, prefix}
use Rattle.gimli_core_readers.specs.SectionId.{SectionId}
use Rattle.gimli_core_readers.specs.SectionId.TheVariants.{DebugAbbrev, DebugAddr, DebugAranges, DebugInfo, DebugLine, DebugLineStr, DebugLoc, DebugLocLists, DebugMacinfo, DebugMacro, DebugNames, DebugRanges, DebugRngLists, DebugStr, DebugStrOffsets, DebugTypes}
use Rattle.gimli_core_readers.specs.SectionNames.{name_of, dwo_name_of}
use Rattle.addr2line_elf.specs.declared.error.LoadError.{LoadError}
use Rattle.addr2line_elf.specs.ElfImages.{Image, section_named}

-- in a main file
abbrev pub is_read : SectionId → Bool
is_read DebugAbbrev = true
is_read DebugAddr = true
is_read DebugAranges = true
is_read DebugInfo = true
is_read DebugLine = true
is_read DebugLineStr = true
is_read DebugLoc = false
is_read DebugLocLists = false
is_read DebugMacinfo = false
is_read DebugMacro = false
is_read DebugNames = false
is_read DebugRanges = true
is_read DebugRngLists = true
is_read DebugStr = true
is_read DebugStrOffsets = true
is_read DebugTypes = false

-- in a split file
abbrev pub is_read_split : SectionId → Bool
is_read_split DebugAbbrev = true
is_read_split DebugAddr = false
is_read_split DebugAranges = false
is_read_split DebugInfo = true
is_read_split DebugLine = true
is_read_split DebugLineStr = false
is_read_split DebugLoc = false
is_read_split DebugLocLists = false
is_read_split DebugMacinfo = false
is_read_split DebugMacro = false
is_read_split DebugNames = false
is_read_split DebugRanges = false
is_read_split DebugRngLists = true
is_read_split DebugStr = true
is_read_split DebugStrOffsets = true
is_read_split DebugTypes = false

-- the bytes of a section of a main file
abbrev pub main_section : SectionId → Image → Result View LoadError
main_section id image =
    if is_read id then section_named (name_of id) image else Ok (prefix 0 image.file)

-- the bytes of the section of a name, if there is a name
abbrev pub named_or_empty : Option (List ℕ) → Image → Result View LoadError
named_or_empty None image = Ok (prefix 0 image.file)
named_or_empty (Some name) image = section_named name image

-- the bytes of a section of a split file
abbrev pub split_section : SectionId → Image → Result View LoadError
split_section id image =
    if is_read_split id then named_or_empty (dwo_name_of id) image else Ok (prefix 0 image.file)
