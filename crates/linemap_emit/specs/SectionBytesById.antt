-- The sections that are emitted of a table, by their identifiers.
use Rattle.std.specs.Prelude.{ℕ, List, []}
use Rattle.linemap_emit_fits.specs.SectionId.{SectionId}
use Rattle.linemap_emit_fits.specs.SectionId.TheVariants.{DebugAbbrev, DebugInfo, DebugLine, DebugLineStr, DebugRanges, DebugRngLists, DebugStr}
use Rattle.linemap_emit_fits.specs.EmittedSections.{SectionBytes}

-- the bytes of a section; the others are empty
abbrev pub bytes_of : SectionId → SectionBytes → List ℕ
bytes_of DebugAbbrev s = s.debug_abbrev
bytes_of DebugInfo s = s.debug_info
bytes_of DebugLine s = s.debug_line
bytes_of DebugLineStr s = s.debug_line_str
bytes_of DebugRanges s = s.debug_ranges
bytes_of DebugRngLists s = s.debug_rnglists
bytes_of DebugStr s = s.debug_str
bytes_of _ s = []
