use Rattle.std.specs.Prelude.{ℕ, List, Option, Some, None, codes}
use Rattle.gimli_core_base.specs.declared.common.SectionId.{SectionId}
use Rattle.gimli_core_base.specs.declared.common.SectionId.TheVariants.{DebugAbbrev, DebugAddr, DebugAranges, DebugInfo, DebugLine, DebugLineStr, DebugLoc, DebugLocLists, DebugMacinfo, DebugMacro, DebugNames, DebugRanges, DebugRngLists, DebugStr, DebugStrOffsets, DebugTypes}

-- the name of a section in a file (DWARF 5, 7.1)
abbrev pub name_of : SectionId → List ℕ
name_of DebugAbbrev = codes ".debug_abbrev"
name_of DebugAddr = codes ".debug_addr"
name_of DebugAranges = codes ".debug_aranges"
name_of DebugInfo = codes ".debug_info"
name_of DebugLine = codes ".debug_line"
name_of DebugLineStr = codes ".debug_line_str"
name_of DebugLoc = codes ".debug_loc"
name_of DebugLocLists = codes ".debug_loclists"
name_of DebugMacinfo = codes ".debug_macinfo"
name_of DebugMacro = codes ".debug_macro"
name_of DebugNames = codes ".debug_names"
name_of DebugRanges = codes ".debug_ranges"
name_of DebugRngLists = codes ".debug_rnglists"
name_of DebugStr = codes ".debug_str"
name_of DebugStrOffsets = codes ".debug_str_offsets"
name_of DebugTypes = codes ".debug_types"

-- the name of a section in a split file (DWARF 5, 7.3.2; up to version 4 also location lists, macro
-- information and types), or none where only main files have it
abbrev pub dwo_name_of : SectionId → Option (List ℕ)
dwo_name_of DebugAbbrev = Some (codes ".debug_abbrev.dwo")
dwo_name_of DebugAddr = None
dwo_name_of DebugAranges = None
dwo_name_of DebugInfo = Some (codes ".debug_info.dwo")
dwo_name_of DebugLine = Some (codes ".debug_line.dwo")
dwo_name_of DebugLineStr = None
dwo_name_of DebugLoc = Some (codes ".debug_loc.dwo")
dwo_name_of DebugLocLists = Some (codes ".debug_loclists.dwo")
dwo_name_of DebugMacinfo = Some (codes ".debug_macinfo.dwo")
dwo_name_of DebugMacro = Some (codes ".debug_macro.dwo")
dwo_name_of DebugNames = None
dwo_name_of DebugRanges = None
dwo_name_of DebugRngLists = Some (codes ".debug_rnglists.dwo")
dwo_name_of DebugStr = Some (codes ".debug_str.dwo")
dwo_name_of DebugStrOffsets = Some (codes ".debug_str_offsets.dwo")
dwo_name_of DebugTypes = Some (codes ".debug_types.dwo")
