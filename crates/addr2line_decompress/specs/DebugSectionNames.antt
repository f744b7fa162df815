-- The sections of debugging information that are decompressed, by their names.
use Rattle.std.specs.Prelude.{◌≡◌, ℕ, ◌||◌, nat_eq, Bool, true, false, List, ◌++◌, length, drop, codes, Option, Some, None}
use Rattle.std.specs.List.{starts_with, list_any}
use Rattle.std.specs.Cmp.Lexicographic.{pointwise}
use Rattle.gimli_core_readers.specs.SectionId.{SectionId}
use Rattle.gimli_core_readers.specs.SectionNames.{name_of, dwo_name_of}
use Rattle.addr2line_elf.specs.declared.debug.TheConstants.{READ}
use Rattle.addr2line_elf.specs.ElfTexts.{is_text}
use Rattle.addr2line_elf.specs.ElfDebugSections.{is_read, is_read_split}
use Rattle.addr2line_decompress.specs.declared.sections.DebugSections.{DebugSections}
use Rattle.addr2line_decompress.specs.declared.sections.DebugSections.TheVariants.{All, Lookups}
use Rattle.addr2line_decompress.specs.declared.sections.TheConstants.{READ_SPLIT}

-- the name of a section of debugging information
abbrev pub is_debug_name : List ℕ → Bool
is_debug_name name =
    starts_with nat_eq name (codes ".debug_") || starts_with nat_eq name (codes ".zdebug_")

-- the name of a section that lookups read, in a main file or in a split one
abbrev pub is_lookup_name : List ℕ → Bool
is_lookup_name name =
    list_any (λ id. pointwise nat_eq (name_of id) name) READ
    || list_any (λ id. is_text (dwo_name_of id) name) READ_SPLIT

abbrev pub is_among : DebugSections → List ℕ → Bool
is_among All name = is_debug_name name
is_among Lookups name = is_lookup_name name

-- a section without a name is none of them
abbrev pub is_wanted : DebugSections → Option (List ℕ) → Bool
is_wanted which None = false
is_wanted which (Some name) = is_among which name

-- ---- GNU's old form, in which a compressed section is named otherwise

-- such a name
abbrev pub is_old_name : List ℕ → Bool
is_old_name name = starts_with nat_eq name (codes ".zdebug_")

-- the name without the z: .debug_ in place of .zdebug_
abbrev pub new_name : List ℕ → List ℕ
new_name name = codes ".debug_" ++ drop (length (codes ".zdebug_")) name

-- each section that lookups read is among those for lookups
abbrev pub LookupsReadThem : Type 0
LookupsReadThem =
    ((id : SectionId) → is_read id ≡ true → is_wanted Lookups (Some (name_of id)) ≡ true)
    × ((id : SectionId) → is_read_split id ≡ true → is_wanted Lookups (dwo_name_of id) ≡ true)
